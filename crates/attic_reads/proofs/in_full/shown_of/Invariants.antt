use Rattle.std.proofs.Common.{◌≡◌, map, take}
use Rattle.std.specs.Prelude.{filter}
use Rattle.osm_model.specs.Past.{elements_by, is_last_shown}
use Rattle.osm_model.specs.Reads.{current_shown}
use Rattle.attic_reads.proofs.in_full.shown_of.Given as goal

abbrev pub invariant-loop-key : goal.invariant-loop-key
invariant-loop-key l = l.found.items ≡ map (current_shown (elements_by l.at l.store.elements)) (filter (is_last_shown (elements_by l.at l.store.elements)) (take l.key-index l.listed))
