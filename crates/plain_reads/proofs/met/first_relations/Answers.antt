use Rattle.std.proofs.Common.{◌+◌, ◌||◌, add-one, rules}
use Rattle.std.specs.List.{list_any}
use Rattle.osm_base.specs.declared.keys.Kind.TheVariants.{Node, Way, Relation}
use Rattle.osm_element.specs.Elements.{key}
use Rattle.osm_model.specs.Selection.{lists}
use Rattle.plain_reads.proofs.Steps.{ids_step}
use Rattle.plain_reads.proofs.met.first_relations.Goals as goal

pub loop-place-preserved : goal.loop-place-preserved
loop-place-preserved c =
    ids_step
    (λ r. list_any (λ n. lists c.args.elements.now (key Relation r) (key Node n)) c.args.nodes.now || list_any (λ w. lists c.args.elements.now (key Relation r) (key Way w)) c.args.ways.now)
    c.loop-place.ids.items c.add_id.new.ids.items c.loop-place.place (c.loop-place.place + 1) c.lists_either.result (add-one c.loop-place.place) c.lists_either.ensures c.loop-place.invariant (search rules)
