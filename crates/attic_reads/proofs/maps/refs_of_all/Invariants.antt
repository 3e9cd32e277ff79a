use Rattle.std.proofs.Common.{◌≡◌, take}
use Rattle.std.specs.List.{flat_map}
use Rattle.osm_element.specs.Elements.{refs_of}
use Rattle.osm_model.specs.Past.{elements_by}
use Rattle.attic_reads.proofs.maps.refs_of_all.Given as goal

abbrev pub invariant-loop-key : goal.invariant-loop-key
invariant-loop-key l = l.found.items ≡ flat_map (refs_of (elements_by l.at l.store.elements)) (take l.key-index l.of)
