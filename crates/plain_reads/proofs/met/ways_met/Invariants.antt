use Rattle.std.proofs.Common.{◌≡◌}
use Rattle.std.specs.Prelude.{filter}
use Rattle.std.specs.List.{list_any}
use Rattle.osm_base.specs.declared.keys.Kind.TheVariants.{Node, Way}
use Rattle.osm_element.specs.Elements.{key}
use Rattle.osm_model.specs.Selection.{lists}
use Rattle.rising_lists.specs.Ids.{ids_to}
use Rattle.plain_reads.proofs.met.ways_met.Given as goal

abbrev pub invariant-loop-place : goal.invariant-loop-place
invariant-loop-place l = l.ids.items ≡ filter (λ w. list_any (λ n. lists l.elements (key Way w) (key Node n)) l.nodes) (ids_to l.place)
