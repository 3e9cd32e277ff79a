use Rattle.std.specs.Prelude.{not}
use Rattle.std.proofs.lemmas.Bool.{and_parts}
use Rattle.osm_base.specs.Key.{lists_key}
use Rattle.osm_world.specs.World.{state_of}
use Rattle.upload_check.specs.Shifts.{apart}
use Rattle.upload_check.specs.Users.{others}
use Rattle.upload_check.specs.declared.shifts.Shift.TheVariants.{More, Less}
use Rattle.upload_check.proofs.Changed.{made_is}
use Rattle.upload_check.proofs.Shifted.{ready_before, shifted_back, shifted_itself}
use Rattle.upload_check.proofs.counts.make.Goals as goal

pub shift_all-requires-clause-some : goal.shift_all-requires-clause-some
shift_all-requires-clause-some c = λ b there. c.requires.used b (and_parts (others c.args.key c.args.ended.now b) (not (lists_key c.args.begun.now b)) there).0

pub raise_and_revise-requires-clause-stood : goal.raise_and_revise-requires-clause-stood
raise_and_revise-requires-clause-stood c =
    shifted_itself Less (state_of c.args.world.now).elements c.args.key c.args.ended.now c.args.begun.now c.args.stood c.args.standings.now c.shift_all.new.standings
    c.in_ok-shift_all.ensures.shifted c.requires.stood

pub returns-in-Ok-clause-made : goal.returns-in-Ok-clause-made
returns-in-Ok-clause-made c =
    made_is (state_of c.args.world.now).elements c.args.key c.args.holds c.args.ended.now c.args.begun.now c.args.standings.now c.shift_all.new.standings c.raise_and_revise.new.standings
    c.requires.used c.in_ok-shift_all.ensures.shifted.counts c.in_ok-shift_all.ensures.shifted.same c.in-Ok.ensures.raised c.in-Ok.ensures.versions c.in-Ok.ensures.held

pub shift_ready-requires-clause-ready : goal.shift_ready-requires-clause-ready
shift_ready-requires-clause-ready c =
    ready_before More (apart c.args.key c.args.ended.now c.args.begun.now) (state_of c.args.world.now).elements c.shift_all.new.standings c.raise_and_revise.new.standings
    c.in-Err.ensures.memory c.in-Err.ensures.stay c.in_ok-shift_all.ensures.shifted.back

pub returns-in-Err-clause-memory : goal.returns-in-Err-clause-memory
returns-in-Err-clause-memory c =
    shifted_back Less (apart c.args.key c.args.ended.now c.args.begun.now) (state_of c.args.world.now).elements c.args.standings.now c.shift_all.new.standings c.raise_and_revise.new.standings c.shift_ready.new.standings
    c.in_ok-shift_all.ensures.shifted c.in-Err.ensures.memory c.shift_ready.ensures
