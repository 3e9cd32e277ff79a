use Rattle.std.proofs.Common.{◌≡◌, false, sym, ◌∙◌}
use Rattle.step_hub.proofs.Beginnings.{each_more}
use Rattle.kept_steps.proofs.ports.any_withheld.Goals as goal

pub loop-desk-preserved : goal.loop-desk-preserved
loop-desk-preserved g c =
    each_more (λ it. it.keeper.failed ≡ false) (λ it. it.keeper.failed ≡ false) (λ d p. p)
    c.args.desks.now c.loop-desk.desk-index c.desk-item.result c.loop-desk-test.true c.loop-desk.invariant
    (rw (← c.desk-item.is) (sym c.has_failed.ensures ∙ c.if-has_failed.false))
