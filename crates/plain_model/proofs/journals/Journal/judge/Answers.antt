use Rattle.std.proofs.Common.{◌≡◌, Ok, Err, sym, subst, rules}
use Rattle.osm_change.specs.Moments.{RefusalHasShownEnd}
use Rattle.osm_model.specs.declared.states.State.{State}
use Rattle.osm_model.specs.Act.{judge}
use Rattle.plain_model.specs.Alteration.{effect}
use Rattle.osm_model.specs.Timely.{IsTimely}
use Rattle.osm_model.proofs.Replayed.{replay_timely}
use Rattle.osm_model.proofs.Told.{answer_shown, refusal_shown}
use Rattle.plain_model.proofs.journals.Journal.judge.Goals as goal

pub returns-in-Ok-clause-shown : goal.returns-in-Ok-clause-shown
returns-in-Ok-clause-shown c =
    let P = c.self.inside.state in
    let timely : IsTimely P = subst (λ (P : State). IsTimely P) (sym c.self.invariant.replayed) (replay_timely c.self.inside.entries.items) in
    let judged : judge P c.args.user c.after-at.result c.args.command ≡ Ok (effect P c.in-Ok.alteration c.in-Ok.answer) = search rules in
    answer_shown P c.args.user c.args.moment c.after-at.result c.args.command timely c.after-at.ensures (effect P c.in-Ok.alteration c.in-Ok.answer) judged

pub returns-in-Err-Refused-clause-shown : goal.returns-in-Err-Refused-clause-shown
returns-in-Err-Refused-clause-shown c =
    let P = c.self.inside.state in
    let timely : IsTimely P = subst (λ (P : State). IsTimely P) (sym c.self.invariant.replayed) (replay_timely c.self.inside.entries.items) in
    let judged : judge P c.args.user c.after-at.result c.args.command ≡ Err c.in-Err-Refused.refusal = rw c.in-Err-Refused.field-0-is at c.in-Err-Refused.ensures in
    let shown : RefusalHasShownEnd c.in-Err-Refused.refusal =
    refusal_shown P c.args.user c.args.moment c.after-at.result c.args.command timely c.after-at.ensures c.in-Err-Refused.refusal judged
    in
    rw c.in-Err-Refused.field-0-is shown
