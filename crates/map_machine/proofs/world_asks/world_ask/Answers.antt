use Rattle.std.proofs.Common.{◌≡◌, ℕ, sym, ap, ◌∙◌, subst}
use Rattle.osm_base.specs.Stamp.{stamp_after}
use Rattle.osm_change.specs.Moments.{HasShownMoments}
use Rattle.osm_change.specs.declared.answers.Answer.{Answer}
use Rattle.osm_model.specs.Ask.{ask, ask_at}
use Rattle.osm_model.specs.declared.states.State.{State}
use Rattle.osm_world.specs.World.{state_of}
use Rattle.map_machine.proofs.world_asks.world_ask.Goals as goal

pub returns-clause-answer : goal.returns-clause-answer
returns-clause-answer g c =
    let P : State = state_of c.args.world.now in
    c.in_ok-answer.ensures
    ∙ ap (λ (t : ℕ). ask_at P t c.args.query.now) (c.after-at.ensures ∙ ap (λ (last : ℕ). stamp_after last c.args.moment) c.last_stamp.ensures.value)

pub returns-clause-shown : goal.returns-clause-shown
returns-clause-shown g c =
    let P : State = state_of c.args.world.now in
    let told : c.in_ok-answer.answer ≡ ask P c.args.moment c.args.query.now
    = c.in_ok-answer.ensures
    ∙ ap (λ (t : ℕ). ask_at P t c.args.query.now) (c.after-at.ensures ∙ ap (λ (last : ℕ). stamp_after last c.args.moment) c.last_stamp.ensures.value) in
    subst (λ (a : Answer). HasShownMoments a) (sym told) (c.answers_have_moments.ensures P c.args.moment c.args.query.now c.laws.ensures.timely)
