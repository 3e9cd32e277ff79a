use Rattle.std.proofs.Common.{◌≡◌, map, take}
use Rattle.osm_model.specs.Reads.{current_shown}
use Rattle.read_calls.proofs.in_full.shown_keys.Given as goal

abbrev pub invariant-loop-key : goal.invariant-loop-key
invariant-loop-key l = l.found.items ≡ map (current_shown l.store.elements) (take l.key-index l.listed)
