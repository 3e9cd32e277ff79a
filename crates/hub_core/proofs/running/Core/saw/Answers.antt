use Rattle.std.proofs.Common.{sym, subst, refl, rules}
use Rattle.hub_core.specs.Stages.{stage, StandsFor, IsCaller}
use Rattle.hub_core.proofs.Stages.{stands_put}
use Rattle.hub_core.proofs.running.Core.saw.Goals as goal

pub returns-clause-saw : goal.returns-clause-saw
returns-clause-saw g c core stands =
    let of_machine = g.M.Machine.rules in
    let inside = c.self.inside in
    let session = c.args.session in
    let caller = c.index_mut.result.now in
    let here : StandsFor of_machine core (stage inside.book inside.published inside.callers.items) = subst (λ s. StandsFor of_machine core s) (sym c.self.view_is) stands in
    let was : IsCaller of_machine core.journal (core.sessions session) caller = subst (λ x. IsCaller of_machine core.journal (core.sessions session) x) (sym c.index_mut.ensures.value) (here.sessions session caller (search rules)) in
    stands_put of_machine core inside.book inside.published inside.callers.items session _ _ here (search rules) (refl, was.1)
