use Rattle.std.proofs.Common.{sym, subst}
use Rattle.osm_world.specs.World.{state_of}
use Rattle.upload_check.specs.Overlay.{Notes}
use Rattle.upload_check.specs.Shifts.{AreReady, apart}
use Rattle.upload_check.specs.declared.shifts.Shift.TheVariants.{More, Less}
use Rattle.upload_check.proofs.Kept.{all_before, stay_after, stay_same}
use Rattle.upload_check.proofs.Shifted.{shifted_back, shifted_itself, shifted_revised, revised_versions, revised_held}
use Rattle.upload_check.proofs.counts.raise_and_revise.Goals as goal

pub returns-in-Ok-clause-raised : goal.returns-in-Ok-clause-raised
returns-in-Ok-clause-raised c =
    shifted_revised More (apart c.args.key c.args.begun.now c.args.ended.now) (state_of c.args.world.now).elements c.args.key c.args.holds c.args.standings.now c.shift_all.new.standings c.revise.new.standings
    c.in_ok-shift_all.ensures.shifted
    (c.in-Ok.ensures.revised (state_of c.args.world.now).elements
    (shifted_itself More (state_of c.args.world.now).elements c.args.key c.args.begun.now c.args.ended.now c.args.stood c.args.standings.now c.shift_all.new.standings
    c.in_ok-shift_all.ensures.shifted c.requires.stood))

pub returns-in-Ok-clause-versions : goal.returns-in-Ok-clause-versions
returns-in-Ok-clause-versions c =
    revised_versions More (apart c.args.key c.args.begun.now c.args.ended.now) (state_of c.args.world.now).elements c.args.key c.args.holds c.args.standings.now c.shift_all.new.standings c.revise.new.standings
    c.in_ok-shift_all.ensures.shifted
    (c.in-Ok.ensures.revised (state_of c.args.world.now).elements
    (shifted_itself More (state_of c.args.world.now).elements c.args.key c.args.begun.now c.args.ended.now c.args.stood c.args.standings.now c.shift_all.new.standings
    c.in_ok-shift_all.ensures.shifted c.requires.stood))

pub returns-in-Ok-clause-held : goal.returns-in-Ok-clause-held
returns-in-Ok-clause-held c =
    revised_held More (apart c.args.key c.args.begun.now c.args.ended.now) (state_of c.args.world.now).elements c.args.key c.args.holds c.args.standings.now c.shift_all.new.standings c.revise.new.standings
    c.in_ok-shift_all.ensures.shifted
    (c.in-Ok.ensures.revised (state_of c.args.world.now).elements
    (shifted_itself More (state_of c.args.world.now).elements c.args.key c.args.begun.now c.args.ended.now c.args.stood c.args.standings.now c.shift_all.new.standings
    c.in_ok-shift_all.ensures.shifted c.requires.stood))

pub shift_ready-requires-clause-ready : goal.shift_ready-requires-clause-ready
shift_ready-requires-clause-ready c =
    subst (λ (n : Notes). AreReady Less (apart c.args.key c.args.begun.now c.args.ended.now) (state_of c.args.world.now).elements n) (sym c.in-Err.ensures.memory) c.in_ok-shift_all.ensures.shifted.back

pub returns-in-Err-clause-stay : goal.returns-in-Err-clause-stay
returns-in-Err-clause-stay c =
    stay_after c.args.standings.now c.shift_all.new.standings c.shift_ready.new.standings c.in_ok-shift_all.ensures.shifted.stay
    (stay_after c.shift_all.new.standings c.revise.new.standings c.shift_ready.new.standings (stay_same c.shift_all.new.standings c.revise.new.standings c.in-Err.ensures.memory) c.shift_ready.ensures.stay)

pub returns-in-Err-clause-memory : goal.returns-in-Err-clause-memory
returns-in-Err-clause-memory c =
    let E = (state_of c.args.world.now).elements in
    shifted_back More (apart c.args.key c.args.begun.now c.args.ended.now) E c.args.standings.now c.shift_all.new.standings c.revise.new.standings c.shift_ready.new.standings
    c.in_ok-shift_all.ensures.shifted (all_before E c.shift_all.new.standings c.revise.new.standings c.in-Err.ensures.memory) c.shift_ready.ensures

pub shift_all-requires-clause-some : goal.shift_all-requires-clause-some
shift_all-requires-clause-some c = λ b there. tt
