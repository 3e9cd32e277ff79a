use Rattle.std.proofs.Common.{◌≡◌, map, take}
use Rattle.hub_core.proofs.entries.unpacked.Given as goal

abbrev pub invariant-loop-one : goal.invariant-loop-one
invariant-loop-one g l = l.entries.items ≡ map g.M.Machine.entry_of (take l.one-index l.kept)
