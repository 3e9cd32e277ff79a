use Rattle.std.proofs.Common.{◌+◌, add-one, rules}
use Rattle.std.specs.List.{list_any}
use Rattle.osm_base.specs.declared.keys.Kind.TheVariants.{Node, Way}
use Rattle.osm_element.specs.Elements.{key}
use Rattle.osm_model.specs.Selection.{lists}
use Rattle.plain_reads.proofs.Steps.{ids_step}
use Rattle.plain_reads.proofs.met.ways_met.Goals as goal

pub loop-place-preserved : goal.loop-place-preserved
loop-place-preserved c =
    ids_step (λ w. list_any (λ n. lists c.args.elements.now (key Way w) (key Node n)) c.args.nodes.now) c.loop-place.ids.items c.add_id.new.ids.items c.loop-place.place (c.loop-place.place + 1) c.lists_one.result (add-one c.loop-place.place) c.lists_one.ensures c.loop-place.invariant (search rules)
