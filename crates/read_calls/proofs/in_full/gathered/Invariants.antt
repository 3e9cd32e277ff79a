use Rattle.std.proofs.Common.{◌≡◌, ◌++◌, ◌∷◌, [], take}
use Rattle.std.specs.List.{flat_map}
use Rattle.osm_element.specs.Elements.{refs_of}
use Rattle.osm_model.specs.Reads.{way_refs}
use Rattle.read_calls.proofs.in_full.gathered.Given as goal

abbrev pub invariant-loop-place : goal.invariant-loop-place
invariant-loop-place l = l.found.items ≡ (refs_of l.store.elements l.fn.key ++ l.fn.key ∷ []) ++ flat_map (way_refs l.store.elements) (take l.place (refs_of l.store.elements l.fn.key))
