use Rattle.std.proofs.Common.{◌≡◌, ◌≤◌, ◌<◌, true, take, length, rules, sym, subst}
use Rattle.machine_law.specs.Rules.{replay}
use Rattle.hub_core.specs.Core.{can_read}
use Rattle.hub_core.specs.Stages.{stage, StandsFor}
use Rattle.hub_core.proofs.Prefixes.{prefix_take}
use Rattle.hub_core.proofs.Stages.{kept_put, stands_put}
use Rattle.hub_core.proofs.running.Core.plan.Goals as goal

pub invariant_of-self : goal.invariant_of-self
invariant_of-self g c =
    let of_machine = g.M.Machine.rules in
    let inside = c.self.inside in
    let shown = take inside.published inside.book in
    let made : of_machine.planned (replay of_machine shown) c.args.command c.in_ok-plan.plan = rw (← c.self.invariant.0) (c.in_ok-plan.ensures.0) in (
      c.self.invariant.0,
      c.self.invariant.1,
      kept_put of_machine inside.book inside.callers.items c.args.session _ c.self.invariant.2 (search rules) (shown, c.args.command, prefix_take inside.published inside.book, made),
    )

pub returns : goal.returns
returns g c core stands =
    let of_machine = g.M.Machine.rules in
    let inside = c.self.inside in
    let session = c.args.session in
    let here : StandsFor of_machine core (stage inside.book inside.published inside.callers.items) = subst (λ s. StandsFor of_machine core s) (sym c.self.view_is) stands in
    let may : can_read core session ≡ true = sym (c.if-not-can_read.ensures.exact core stands) in
    let within : session < length inside.callers.items = search rules in
    let made : of_machine.planned (replay of_machine (take core.published core.journal)) c.args.command c.in_ok-plan.plan = rw (← here.published, ← here.journal, ← c.self.invariant.0) (c.in_ok-plan.ensures.0) in
    let most : core.published ≤ length core.journal = rw (← here.published, ← here.journal) c.self.invariant.1 in
    rw may (stands_put of_machine core inside.book inside.published inside.callers.items session _ _ here within (here.published, (most, made)), tt)
