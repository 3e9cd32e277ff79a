use Rattle.std.proofs.Common.{◌≡◌, ◌++◌, ◌∷◌, [], true, sym, ap, ◌∙◌}
use Rattle.machine_law.specs.Rules.{replay}
use Rattle.snapshot_hub.proofs.Next.{next_state}
use Rattle.snapshot_hub.proofs.shown.Shown.take.Goals as goal

pub invariant_of-self : goal.invariant_of-self
invariant_of-self g c =
    let rules = g.M.Machine.rules in
    let front = c.self.inside.front in
    let entry = c.step.inside.entry in
    let ready = c.in-Ok-true.ensures.ready c.in-Ok-true.field-0-test in
    let next : c.step.inside.front ≡ front ++ entry ∷ [] = ready.0 in
    let taken : rules.takes (replay rules front) entry ≡ true = ap (λ s. rules.takes s entry) (sym c.self.invariant.0 ∙ sym c.make_ready.ensures.same) ∙ ready.1 in (
      rw (c.apply.ensures, c.make_ready.ensures.same, c.self.invariant.0) (sym (next_state rules front c.step.inside.front entry next)),
      c.step.invariant.1,
    )
