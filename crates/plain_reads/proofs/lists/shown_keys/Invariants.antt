use Rattle.std.proofs.Common.{◌≡◌, map, take}
use Rattle.osm_model.specs.Reads.{current_shown}
use Rattle.plain_reads.proofs.lists.shown_keys.Given as goal

abbrev pub invariant-loop-key : goal.invariant-loop-key
invariant-loop-key l = l.found.items ≡ map (current_shown l.elements) (take l.key-index l.listed)
