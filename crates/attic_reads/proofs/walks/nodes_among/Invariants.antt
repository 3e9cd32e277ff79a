use Rattle.std.proofs.Common.{◌≡◌, ◌&&◌, map, take}
use Rattle.std.specs.Prelude.{filter}
use Rattle.osm_base.specs.declared.keys.Kind.TheVariants.{Node}
use Rattle.osm_element.specs.Elements.{key}
use Rattle.osm_model.specs.Past.{elements_by, is_last_shown}
use Rattle.osm_model.specs.PastMap.{is_in}
use Rattle.attic_reads.proofs.walks.nodes_among.Given as goal

abbrev pub invariant-loop-id : goal.invariant-loop-id
invariant-loop-id l =
    l.found.items
    ≡ filter (λ k. is_last_shown (elements_by l.at l.store.elements) k && is_in (elements_by l.at l.store.elements) l.within k) (map (key Node) (take l.id-index l.near))
