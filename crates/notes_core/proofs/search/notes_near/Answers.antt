use Rattle.notes_core.specs.World.{state_of}
use Rattle.notes_core.proofs.Near.{near-is}
use Rattle.notes_core.proofs.search.notes_near.Goals as goal

pub returns : goal.returns
returns c =
    near-is c.rising_ids_are_told.ensures.passing (state_of c.args.world.now) c.cells.result.now c.args.within.now c.in_ok-ids.ids.items c.cells.ensures c.in_ok-ids.ensures.rising c.in_ok-ids.ensures.each c.in_ok-ids.ensures.all
