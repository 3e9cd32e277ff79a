use Rattle.std.proofs.Common.{ap, sym, subst, ◌∙◌, true≢false}
use Rattle.std.specs.Prelude.{Option, is_some, unwrap_or}
use Rattle.osm_world.specs.World.{state_of}
use Rattle.upload_check.specs.Overlay.{standing_before}
use Rattle.upload_check.specs.Shifts.{HasOne, Fits}
use Rattle.upload_check.specs.declared.standings.Standing.{Standing}
use Rattle.upload_check.proofs.shifts.shift_one.Goals as goal

pub shift_noted-requires-clause-noted : goal.shift_noted-requires-clause-noted
shift_noted-requires-clause-noted c = sym c.look.ensures ∙ c.in-Some.is

pub shift_noted-requires-clause-some : goal.shift_noted-requires-clause-some
shift_noted-requires-clause-some c =
    let E = (state_of c.args.world.now).elements in
    subst (HasOne c.args.shift) (ap (λ (o : Option Standing). (unwrap_or o (standing_before E c.args.used)).users) (sym c.look.ensures ∙ c.in-Some.is)) c.requires

pub returns-in-Some-clause-sure : goal.returns-in-Some-clause-sure
returns-in-Some-clause-sure c = λ ready.
    let E = (state_of c.args.world.now).elements in
    c.shift_noted.ensures.sure
    (subst (Fits c.args.shift) (ap (λ (o : Option Standing). (unwrap_or o (standing_before E c.args.used)).users) (sym c.look.ensures ∙ c.in-Some.is)) ready.fits)

pub shift_first-requires-clause-noted : goal.shift_first-requires-clause-noted
shift_first-requires-clause-noted c = sym c.look.ensures ∙ c.in-None.is

pub returns-in-None-clause-sure : goal.returns-in-None-clause-sure
returns-in-None-clause-sure c = λ ready. absurd (true≢false (sym ready.noted ∙ ap is_some (sym c.look.ensures ∙ c.in-None.is)))
