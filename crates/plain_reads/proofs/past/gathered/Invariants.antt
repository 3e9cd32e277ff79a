use Rattle.std.proofs.Common.{◌≡◌, ◌++◌, ◌∷◌, [], take}
use Rattle.std.specs.List.{flat_map}
use Rattle.osm_element.specs.Elements.{refs_of}
use Rattle.osm_model.specs.Past.{shown_way_refs}
use Rattle.plain_reads.proofs.past.gathered.Given as goal

abbrev pub invariant-loop-place : goal.invariant-loop-place
invariant-loop-place l = l.found.items ≡ (refs_of l.elements l.fn.key ++ l.fn.key ∷ []) ++ flat_map (shown_way_refs l.elements) (take l.place (refs_of l.elements l.fn.key))
