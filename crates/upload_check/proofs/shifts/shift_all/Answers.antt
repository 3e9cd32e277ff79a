use Rattle.std.proofs.Common.{refl, sym, subst, take}
use Rattle.osm_world.specs.World.{state_of}
use Rattle.upload_check.specs.Shifts.{AreReady, IsShifted, apart}
use Rattle.upload_check.specs.declared.shifts.Shift.{Shift}
use Rattle.upload_check.proofs.Kept.{stay_after}
use Rattle.upload_check.proofs.Shifted.{shifted_back}
use Rattle.upload_check.proofs.Walks.{rising_take, shifted_same}
use Rattle.upload_check.proofs.shifts.shift_all.Goals as goal

pub returns-then-are_same-clause-shifted : goal.returns-then-are_same-clause-shifted
returns-then-are_same-clause-shifted c =
    shifted_same c.args.shift (state_of c.args.world.now).elements c.args.user c.args.listed.now c.args.left.now c.args.standings.now (c.are_same.ensures c.if-are_same.true)

pub shift_ready-requires-clause-rising : goal.shift_ready-requires-clause-rising
shift_ready-requires-clause-rising c = rising_take c.args.listed.now c.in-Err.place c.requires.rising

pub shift_ready-requires-clause-ready : goal.shift_ready-requires-clause-ready
shift_ready-requires-clause-ready c =
    subst (λ (s : Shift). AreReady s (apart c.args.user (take c.in-Err.place c.args.listed.now) c.args.left.now) (state_of c.args.world.now).elements c.shift_each.new.standings)
    (sym c.back.ensures) c.in-Err.ensures.partly.back

pub returns-in-Err-clause-stay : goal.returns-in-Err-clause-stay
returns-in-Err-clause-stay c = stay_after c.args.standings.now c.shift_each.new.standings c.shift_ready.new.standings c.in-Err.ensures.partly.stay c.shift_ready.ensures.stay

pub returns-in-Err-clause-memory : goal.returns-in-Err-clause-memory
returns-in-Err-clause-memory c =
    let E = (state_of c.args.world.now).elements in
    shifted_back c.args.shift (apart c.args.user (take c.in-Err.place c.args.listed.now) c.args.left.now) E c.args.standings.now c.shift_each.new.standings c.shift_each.new.standings c.shift_ready.new.standings
    c.in-Err.ensures.partly (λ b. refl)
    (subst (λ (s : Shift). IsShifted s (apart c.args.user (take c.in-Err.place c.args.listed.now) c.args.left.now) E c.shift_each.new.standings c.shift_ready.new.standings) c.back.ensures c.shift_ready.ensures)
