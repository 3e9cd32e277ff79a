use Rattle.std.proofs.Common.{◌≡◌, true, take, sym, subst, ◌∙◌}
use Rattle.machine_law.specs.Rules.{replay}
use Rattle.hub_core.specs.Core.{can_read, saw}
use Rattle.hub_core.specs.Stages.{stage, StandsFor}
use Rattle.hub_core.proofs.running.Core.ask.Goals as goal

pub returns : goal.returns
returns g c core stands =
    let of_machine = g.M.Machine.rules in
    let inside = c.self.inside in
    let here : StandsFor of_machine core (stage inside.book inside.published inside.callers.items) = subst (λ s. StandsFor of_machine core s) (sym c.self.view_is) stands in
    let may : can_read core c.args.session ≡ true = sym (c.if-not-can_read.ensures.exact core stands) in
    let bytes = c.in_ok-bytes.bytes in
    let reply : bytes ≡ of_machine.reply (replay of_machine (take core.published core.journal)) c.args.query c.args.moment = c.in_ok-bytes.ensures ∙ rw (← here.published, ← here.journal, ← c.self.invariant.0) c.in_ok-found.ensures in
    rw may (subst (λ n. StandsFor of_machine (saw core c.args.session n) c.saw.new.self) here.published (c.saw.ensures.saw core stands), reply)
