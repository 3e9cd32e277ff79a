use Rattle.std.proofs.lemmas.Result.{on_ok_weaker}
use Rattle.osm_world.specs.World.{state_of}
use Rattle.upload_check.proofs.Shifted.{shifted_kept, shifted_goes}
use Rattle.upload_check.proofs.shifts.shift_unless.Goals as goal

pub returns-then-stays-clause-shifted : goal.returns-then-stays-clause-shifted
returns-then-stays-clause-shifted c = shifted_kept c.args.shift (state_of c.args.world.now).elements c.args.standings.now c.args.used c.args.stays c.if-stays.true

pub shift_one-requires : goal.shift_one-requires
shift_one-requires c = c.requires c.if-stays.false

pub returns-clause-shifted : goal.returns-clause-shifted
returns-clause-shifted c =
    on_ok_weaker c.shift_one.result
    (shifted_goes c.args.shift (state_of c.args.world.now).elements c.args.standings.now c.shift_one.new.standings c.args.used c.args.stays c.if-stays.false)
    c.shift_one.ensures.shifted

pub returns-clause-sure : goal.returns-clause-sure
returns-clause-sure c = λ ready. c.shift_one.ensures.sure (ready c.if-stays.false)
