use Rattle.std.proofs.Common.{◌≡◌, ◌++◌, ◌∷◌, [], true, sym, ap, ◌∙◌}
use Rattle.machine_law.specs.Rules.{replay}
use Rattle.snapshot_hub.proofs.Next.{next_state}
use Rattle.snapshot_hub.proofs.shown.Shown.take_copy.Goals as goal

pub invariant_of-self-2 : goal.invariant_of-self-2
invariant_of-self-2 g c =
    let rules = g.M.Machine.rules in
    let front = c.self.inside.front in
    let entry = c.step.inside.entry in
    let ready = c.in_ok-ready.ensures.ready c.if-not-ready.false in
    let next : c.step.inside.front ≡ front ++ entry ∷ [] = ready.0 in
    let taken : rules.takes (replay rules front) entry ≡ true = ap (λ s. rules.takes s entry) (sym c.self.invariant.0 ∙ sym c.make_ready.ensures.same) ∙ ready.1 in
    rw (c.again.ensures) (
      rw (c.apply.ensures, c.make_ready.ensures.same, c.in_ok-entry.ensures, c.self.invariant.0) (sym (next_state rules front c.step.inside.front entry next)),
      c.step.invariant.1,
    )
