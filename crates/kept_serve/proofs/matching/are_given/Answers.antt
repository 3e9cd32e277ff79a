use mathlib.Core.List.{IsPrefix}
use Rattle.snapshot_hub.proofs.Prefixes.{each_more}
use Rattle.kept_serve.proofs.matching.are_given.Goals as goal

pub loop-receipts-preserved : goal.loop-receipts-preserved
loop-receipts-preserved g c =
    each_more (λ receipts. IsPrefix receipts c.args.given.now) (λ receipts. IsPrefix receipts c.args.given.now) (λ d p. p)
    c.args.in_hand.now c.loop-receipts.receipts-index c.receipts-item.result c.loop-receipts-test.true c.loop-receipts.invariant
    (rw (← c.receipts-item.is) (c.begins.ensures.begins c.if-not-begins.false))
