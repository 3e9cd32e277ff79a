use Rattle.std.proofs.Common.{◌≡◌, false, sym, ◌∙◌}
use Rattle.snapshot_hub.proofs.Prefixes.{each_more}
use Rattle.map_kept.proofs.ports.any_withheld.Goals as goal

pub loop-desk-preserved : goal.loop-desk-preserved
loop-desk-preserved g c =
    each_more (λ desk. desk.failed ≡ false) (λ desk. desk.failed ≡ false) (λ d p. p)
    c.args.desks.now c.loop-desk.desk-index c.desk-item.result c.loop-desk-test.true c.loop-desk.invariant
    (rw (← c.desk-item.is) (sym c.has_failed.ensures ∙ c.if-has_failed.false))
