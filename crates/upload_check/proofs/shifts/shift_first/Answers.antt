use Rattle.std.proofs.Common.{sym, ap, subst, ◌∙◌}
use Rattle.std.specs.Prelude.{Option, unwrap_or}
use Rattle.std.proofs.lemmas.Result.{on_ok_weaker}
use Rattle.osm_world.specs.World.{state_of}
use Rattle.upload_check.specs.Overlay.{standing_before}
use Rattle.upload_check.specs.Shifts.{HasOne}
use Rattle.upload_check.specs.declared.standings.Standing.{Standing}
use Rattle.upload_check.proofs.Shifted.{shifted_one}
use Rattle.upload_check.proofs.shifts.shift_first.Goals as goal

pub of-requires : goal.of-requires
of-requires c =
    let E = (state_of c.args.world.now).elements in
    subst (HasOne c.args.shift)
    (ap (λ (o : Option Standing). (unwrap_or o (standing_before E c.args.used)).users) c.requires.noted ∙ sym (ap (λ (x : Standing). x.users) c.standing_before-standing.ensures))
    c.requires.some

pub returns-clause-shifted : goal.returns-clause-shifted
returns-clause-shifted c =
    let E = (state_of c.args.world.now).elements in
    on_ok_weaker c.set.result
    (shifted_one c.args.shift E c.args.standings.now c.set.new.self c.args.used c.standing_before-standing.result c.in_ok-users.users
    (c.standing_before-standing.ensures ∙ sym (ap (λ (o : Option Standing). unwrap_or o (standing_before E c.args.used)) c.requires.noted))
    c.in_ok-users.ensures.goes c.in_ok-users.ensures.back)
    c.set.ensures.set
