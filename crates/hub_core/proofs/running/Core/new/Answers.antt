use Rattle.std.proofs.Common.{◌≡◌, ap, sym, ◌∙◌, None, arith, length, refl, subst, All, length-append, List}
use Rattle.std.proofs.lemmas.List.Elements.{All-push}
use Rattle.hub_core.specs.declared.running.Caller.{Caller}
use Rattle.hub_core.proofs.running.Core.new.Goals as goal

pub invariant_of-result : goal.invariant_of-result
invariant_of-result g c = (c.empty.ensures, omega arith, λ session other lt. rw (c.loop.invariant.1 session other lt).1 tt)

pub returns : goal.returns
returns g c = record {
  journal = c.new.ensures;
  published = refl;
  count = omega (arith, c.loop.invariant.0, c.loop-test.false, c.loop.auto.counter-end);
  sessions = λ session other lt.
      let fresh = c.loop.invariant.1 session other lt in
      (fresh.0, rw fresh.1 tt);
}

pub loop-preserved : goal.loop-preserved
loop-preserved g c =
    let Fresh : Caller g.row.M-Plan.Denot → Type 0 = λ x. (x.seen ≡ 0) × (x.plan ≡ None) in
    let added = c.in_ok-push.ensures.items in (
      omega (arith, ap length added ∙ length-append c.loop.callers.items _, c.loop.invariant.0),
      subst (λ (l : List (Caller g.row.M-Plan.Denot)). All Fresh l) (sym added) (All-push Fresh c.loop.callers.items _ c.loop.invariant.1 (refl, refl)),
    )
