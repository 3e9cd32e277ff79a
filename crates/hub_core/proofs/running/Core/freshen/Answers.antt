use Rattle.std.proofs.Common.{◌≡◌, true, ap, ◌∙◌, subst, length, arith}
use Rattle.std.specs.Prelude.{nat_lt}
use Rattle.std.proofs.lemmas.Bool.{lt-ltb}
use Rattle.hub_core.specs.Core.{all_published, saw}
use Rattle.hub_core.specs.Stages.{StandsFor}
use Rattle.hub_core.proofs.Stages.{stands_published}
use Rattle.hub_core.proofs.running.Core.freshen.Goals as goal

pub returns-in_ok-publish : goal.returns-in_ok-publish
returns-in_ok-publish g c core stands =
    let of_machine = g.M.Machine.rules in
    let all : StandsFor of_machine (all_published core) c.publish.new.self = stands_published of_machine core c.args.self.now c.publish.new.self stands c.publish.ensures.same.0 c.publish.ensures.same.1 c.in_ok-publish.ensures.ok in
    let shown = ap (λ s. s.published) c.self-then-session-len.view_is ∙ all.published in
    let same : length c.self.inside.callers.items ≡ core.count = ap (λ s. length s.callers) c.self.view_is ∙ stands.count in
    let there : nat_lt c.args.session core.count ≡ true = lt-ltb c.args.session core.count (omega (arith, c.if-session-len.true, c.len.ensures, same)) in
    rw there (subst (λ n. StandsFor of_machine (saw (all_published core) c.args.session n) c.saw.new.self) shown (c.saw.ensures.saw (all_published core) all))
