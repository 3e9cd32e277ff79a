use Rattle.std.proofs.Common.{◌≡◌, ◌++◌, ◌∷◌, [], fold, sym, ◌∙◌, subst}
use Rattle.std.proofs.lemmas.List.{map-id}
use Rattle.std.proofs.lemmas.List.Sums.{fold_push}
use Rattle.std.proofs.lemmas.Iterator.Adapters.{YieldsList-from_vec}
use Rattle.std.proofs.lemmas.Iterator.Consumers.{YieldsList-end}
use Rattle.hub_core.specs.Core.{core_step, all_told}
use Rattle.hub_core.specs.Stages.{StandsFor, AreTold}
use Rattle.hub_core.proofs.Told.{told_push}
use Rattle.hub_core.proofs.running.Core.play.Goals as goal

pub loop-event-preserved : goal.loop-event-preserved
loop-event-preserved g c core stands =
    let of_machine = g.M.Machine.rules in
    let events = c.loop-event.yielded in
    let event = c.in-Some.event in
    let before = c.loop-event.invariant core stands in
    let gave = c.in_ok-play_one.ensures (fold (core_step of_machine) core events) before.0 in (
      subst (λ state. StandsFor of_machine state c.play_one.new.self) (sym (fold_push (core_step of_machine) core events event)) gave.0,
      subst (λ replies. AreTold of_machine (all_told of_machine core (events ++ event ∷ [])) replies) (sym gave.1.1)
          (told_push of_machine core events event c.loop-event.replies.items gave.1.0 before.1 gave.1.2),
    )

-- the loop has taken each event
pub returns : goal.returns
returns g c core stands =
    let of_machine = g.M.Machine.rules in
    let gives = c.into_iter-event-iterator.ensures.into_iter_gives in
    let all = YieldsList-end (YieldsList-from_vec c.args.events.items gives.0 (gives.1 ∙ c.args.events.ok.0)) c.loop-event.yielded c.loop-event.event-iterator c.loop-event.yielded_by _ c.next.new.self c.in-None.is c.next.ensures.steps in
    let taken : c.loop-event.yielded ≡ c.args.events.items = sym (map-id c.loop-event.yielded) ∙ all.0 in
    subst (λ events. StandsFor of_machine (fold (core_step of_machine) core events) c.loop-event.self × AreTold of_machine (all_told of_machine core events) c.loop-event.replies.items)
    taken (c.loop-event.invariant core stands)
