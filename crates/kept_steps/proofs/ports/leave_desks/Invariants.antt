use Rattle.std.proofs.Common.{◌≡◌, ◌+◌, ◌≤◌, ◌++◌, length, map, take, vec_len, vec_capacity}
use Rattle.kept_steps.proofs.ports.leave_desks.Given as goal

abbrev pub invariant-loop-desk : goal.invariant-loop-desk
invariant-loop-desk g l =
    (vec_len l.receipts ≡ vec_len l.fn.receipts + l.desk-index)
    × (vec_capacity l.receipts ≡ vec_capacity l.fn.receipts)
    × (l.receipts.items ≡ l.fn.receipts.items ++ map (λ it. it.keeper.receipts) (take l.desk-index l.desks))
