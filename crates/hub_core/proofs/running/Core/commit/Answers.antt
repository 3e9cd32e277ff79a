use Rattle.std.proofs.Common.{◌≡◌, ◌<◌, ◌+◌, Some, None, sym, ap, ◌∙◌, subst, refl, take, length, get_or, arith}
use Rattle.std.proofs.lemmas.List.{get_or-set_other}
use Rattle.std.proofs.Math.ListN.{length-set}
use Rattle.machine_law.specs.Rules.{replay}
use Rattle.hub_core.specs.Core.{plan_of, tagged}
use Rattle.hub_core.specs.Journal.{calls_of, extended}
use Rattle.hub_core.specs.Stages.{stage, StandsFor, IsCaller, HasPlan, ArePlansKept}
use Rattle.hub_core.proofs.Prefixes.{prefix_take}
use Rattle.hub_core.proofs.Stages.{kept_put, kept_grown, stands_settled, intent_of, IsCommittedTo, committed_to, shown_grown, without_plan, plan_is, plan_there, commit_told}
use Rattle.hub_core.proofs.running.Core.commit.Goals as goal

pub returns-in_default : goal.returns-in_default
returns-in_default g c core stands =
    let of_machine = g.M.Machine.rules in
    let inside = c.self.inside in
    let session = c.args.session in
    let here : StandsFor of_machine core (stage inside.book inside.published inside.callers.items) = subst (λ s. StandsFor of_machine core s) (sym c.self.view_is) stands in
    let none : plan_of core session ≡ None = plan_is of_machine core inside.book inside.published inside.callers.items session here c.in_default.ensures.1 in
    rw (none, c.in_default.ensures.0) (here, tt)

pub invariant_of-self-2 : goal.invariant_of-self-2
invariant_of-self-2 g c =
    let of_machine = g.M.Machine.rules in
    let inside = c.self.inside in
    let session = c.args.session in
    let found = c.in-Some.ensures in
    let left = c.take_plan.new.callers.items in
    let place = c.in_ok-done.done.place in
    let now = c.commit.new.self in
    let within : session < length left = omega (arith, found.0, ap length found.1.3 ∙ length-set inside.callers.items session (record found.1.0 { plan = None })) in
    let kept : ArePlansKept of_machine inside.book left = without_plan of_machine inside.book inside.callers.items left session found.1.0 c.self.invariant.2 found.0 found.1.3 in
    let to : IsCommittedTo place inside.book now = committed_to _ _ _ place inside.book now c.in_ok-done.ensures.offers in
    let shown = shown_grown place inside.book now inside.published to c.self.invariant.1 in
    (rw shown.0 c.self.invariant.0, shown.1, kept_put of_machine now left session _ (kept_grown of_machine place inside.book now left kept to) within tt)

pub returns : goal.returns
returns g c core stands =
    let of_machine = g.M.Machine.rules in
    let inside = c.self.inside in
    let session = c.args.session in
    let found = c.in-Some.ensures in
    let old = found.1.0 in
    let left = c.take_plan.new.callers.items in
    let done = c.in_ok-done.done in
    let call = c.in-Some-checked_add.call in
    let here : StandsFor of_machine core (stage inside.book inside.published inside.callers.items) = subst (λ s. StandsFor of_machine core s) (sym c.self.view_is) stands in
    let was : IsCaller of_machine core.journal (core.sessions session) old = subst (λ x. IsCaller of_machine core.journal (core.sessions session) x) (sym found.1.1) (here.sessions session old found.0) in
    let kept : HasPlan of_machine core.journal (core.sessions session).plan (Some c.in-Some.plan) = subst (λ p. HasPlan of_machine core.journal (core.sessions session).plan p) found.1.2 was.1 in
    let intent = intent_of of_machine core.journal (core.sessions session).plan c.in-Some.plan kept in
    let planned : of_machine.planned (replay of_machine (take intent.0.base inside.book)) intent.0.command c.in-Some.plan = rw here.journal intent.2 in
    let there : plan_of core session ≡ Some intent.0 = plan_there of_machine core session intent.0 (omega (arith, found.0, here.count)) intent.1 in
    let long : length left ≡ length inside.callers.items = ap length found.1.3 ∙ length-set inside.callers.items session (record old { plan = None }) in
    let next : call ≡ calls_of of_machine.tag_of session inside.book + 1 = c.in-Some-checked_add.ensures.1 ∙ ap (λ n. n + 1) c.calls.ensures in
    let settled = of_machine.act (replay of_machine inside.book) (tagged session call) c.args.moment intent.0.command in
    let acts = c.in_ok-done.ensures.acts (take intent.0.base inside.book) intent.0.command (prefix_take intent.0.base inside.book) planned in
    let seen : c.len-seen.result ≡ length (extended core.journal settled.entry) = c.len-seen.ensures.length ∙ ap length (c.journal.ensures.journal ∙ (acts.entered ∙ ap (λ j. extended j settled.entry) here.journal)) in
    let stands_so = stands_settled of_machine core settled.entry inside.published left session _ here.published (long ∙ here.count) (omega (arith, found.0, long))
    (λ k other less apart. subst (λ x. IsCaller of_machine core.journal (core.sessions k) x)
    (sym (ap (λ l. get_or l k other) found.1.3 ∙ get_or-set_other inside.callers.items session k (record old { plan = None }) other apart)) (here.sessions k other (omega (arith, less, long))))
    seen refl in
    commit_told of_machine core session c.args.moment call intent.0 inside.book c.commit.new.self inside.published _ done settled there here.journal next refl acts.entered stands_so acts.answer_is acts.placed (c.in-Some.plan, planned, c.in_ok-done.ensures.path)
