use Rattle.std.proofs.Common.{◌≡◌, ◌||◌}
use Rattle.std.specs.Prelude.{filter}
use Rattle.std.specs.List.{list_any}
use Rattle.osm_base.specs.declared.keys.Kind.TheVariants.{Relation}
use Rattle.osm_element.specs.Elements.{key}
use Rattle.osm_model.specs.Selection.{lists}
use Rattle.rising_lists.specs.Ids.{ids_to, lists_id}
use Rattle.plain_reads.proofs.met.relations_met.Given as goal

abbrev pub invariant-loop-place : goal.invariant-loop-place
invariant-loop-place l = l.ids.items ≡ filter (λ r. lists_id l.first r || list_any (λ q. lists l.elements (key Relation r) (key Relation q)) l.first) (ids_to l.place)
