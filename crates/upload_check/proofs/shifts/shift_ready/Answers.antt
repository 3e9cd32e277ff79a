use Rattle.osm_world.specs.World.{state_of}
use Rattle.upload_check.specs.Shifts.{apart}
use Rattle.upload_check.proofs.Shifted.{ok_holds, ready_some}
use Rattle.upload_check.proofs.shifts.shift_ready.Goals as goal

pub shift_each-requires-clause-some : goal.shift_each-requires-clause-some
shift_each-requires-clause-some c =
    ready_some c.args.shift (apart c.args.user c.args.listed.now c.args.left.now) (state_of c.args.world.now).elements c.args.standings.now c.requires.ready

pub returns : goal.returns
returns c = ok_holds c.shift_each.result (c.shift_each.ensures.sure c.requires.ready) c.shift_each.ensures.shifted
