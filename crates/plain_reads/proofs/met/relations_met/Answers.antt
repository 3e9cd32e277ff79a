use Rattle.std.proofs.Common.{◌+◌, ◌||◌, add-one, rules}
use Rattle.std.specs.List.{list_any}
use Rattle.osm_base.specs.declared.keys.Kind.TheVariants.{Relation}
use Rattle.osm_element.specs.Elements.{key}
use Rattle.osm_model.specs.Selection.{lists}
use Rattle.rising_lists.specs.Ids.{lists_id}
use Rattle.plain_reads.proofs.Steps.{ids_step}
use Rattle.plain_reads.proofs.met.relations_met.Goals as goal

pub loop-place-preserved : goal.loop-place-preserved
loop-place-preserved c =
    ids_step (λ r. lists_id c.args.first.now r || list_any (λ q. lists c.args.elements.now (key Relation r) (key Relation q)) c.args.first.now)
    c.loop-place.ids.items c.add_id.new.ids.items c.loop-place.place (c.loop-place.place + 1) c.is_or_lists.result (add-one c.loop-place.place) c.is_or_lists.ensures c.loop-place.invariant (search rules)
