use Rattle.std.proofs.Common.{◌∙◌, ap}
use Rattle.std.specs.Prelude.{filter}
use Rattle.std.proofs.lemmas.List.{take_all}
use Rattle.osm_model.specs.Selection.{is_inside}
use Rattle.osm_world.specs.World.{state_of}
use Rattle.map_call.proofs.Near.{within-near}
use Rattle.map_call.proofs.within.nodes_within.Goals as goal

pub returns-clause-nodes : goal.returns-clause-nodes
returns-clause-nodes g c =
    c.loop-id.invariant.ids
    ∙ ap (filter (is_inside (state_of c.args.world.now).elements c.args.within.now))
    (take_all c.loop-id.id-index c.deref-id-items.result.now c.loop-id-test.false ∙ c.deref-id-items.ensures.value ∙ c.in_ok-near.ensures)
    ∙ within-near c.boxes_touch_what_they_hold.ensures (state_of c.args.world.now).elements c.args.within.now c.requires
