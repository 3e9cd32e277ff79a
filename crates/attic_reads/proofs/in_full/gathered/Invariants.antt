use Rattle.std.proofs.Common.{◌≡◌, ◌++◌, ◌∷◌, [], take}
use Rattle.std.specs.List.{flat_map}
use Rattle.osm_element.specs.Elements.{refs_of}
use Rattle.osm_model.specs.Past.{elements_by, shown_way_refs}
use Rattle.attic_reads.proofs.in_full.gathered.Given as goal

abbrev pub invariant-loop-place : goal.invariant-loop-place
invariant-loop-place l =
    l.found.items
    ≡ (refs_of (elements_by l.fn.at l.store.elements) l.fn.key ++ l.fn.key ∷ [])
    ++ flat_map (shown_way_refs (elements_by l.fn.at l.store.elements)) (take l.place (refs_of (elements_by l.fn.at l.store.elements) l.fn.key))
