use Rattle.osm_base.specs.declared.keys.Kind.TheVariants.{Node}
use Rattle.osm_element.specs.Elements.{key}
use Rattle.osm_model.specs.Ask.{element_row}
use Rattle.osm_model.specs.Reads.{shown}
use Rattle.osm_world.specs.World.{state_of}
use Rattle.map_machine.proofs.RowSteps.{rows_step}
use Rattle.map_machine.proofs.world_rows.element_rows.Goals as goal

pub loop-one-preserved : goal.loop-one-preserved
loop-one-preserved c =
    rows_step (element_row (state_of c.args.world.now)) c.args.shown.now c.loop-one.one-index (shown (key Node 0) 0) c.loop-one.rows.items c.add_row.new.rows.items c.loop-one-test.true c.loop-one.invariant c.in_ok-add_row.ensures
