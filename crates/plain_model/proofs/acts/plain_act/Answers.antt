use Rattle.std.proofs.Common.{◌≡◌, Ok, sym, subst, rules}
use Rattle.osm_element.specs.Later.{Keeps}
use Rattle.osm_model.specs.declared.states.State.{State}
use Rattle.osm_model.specs.Act.{judge}
use Rattle.plain_model.specs.Alteration.{effect}
use Rattle.osm_model.proofs.Advances.{judge-advances}
use Rattle.plain_model.proofs.acts.plain_act.Goals as goal

pub returns-in-Ok-clause-kept : goal.returns-in-Ok-clause-kept
returns-in-Ok-clause-kept c =
    let done = effect c.args.state c.in-Ok.alteration c.in-Ok.answer in
    let judged : judge c.args.state c.args.user.now c.after-at.result c.args.command.now ≡ Ok done = search rules in
    subst
    (λ (Q : State). Keeps c.args.state.elements Q.elements)
    (sym c.in_ok-take_alteration-in-Ok.ensures.ok)
    (judge-advances c.args.state c.args.user.now c.after-at.result c.args.command.now done judged).kept
