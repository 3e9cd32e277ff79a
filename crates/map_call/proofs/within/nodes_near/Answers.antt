use Rattle.osm_world.specs.World.{state_of}
use Rattle.map_call.proofs.Near.{near-is}
use Rattle.map_call.proofs.within.nodes_near.Goals as goal

pub returns : goal.returns
returns c =
    near-is c.rising_ids_are_told.ensures.passing (state_of c.args.world.now).elements c.grid.result.now c.args.within.now c.in_ok-ids.ids.items c.grid.ensures.placed c.in_ok-ids.ensures.rising c.in_ok-ids.ensures.each c.in_ok-ids.ensures.all
