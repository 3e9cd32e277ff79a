use Rattle.std.proofs.Common.{take}
use Rattle.std.specs.List.{AllByRecursion}
use mathlib.Core.List.{IsPrefix}
use Rattle.kept_serve.proofs.matching.are_given.Given as goal

abbrev pub invariant-loop-receipts : goal.invariant-loop-receipts
invariant-loop-receipts g l = AllByRecursion (λ receipts. IsPrefix receipts l.given) (take l.receipts-index l.in_hand)
