use Rattle.std.proofs.Common.{◌≡◌, ◌+◌, ◌≤◌, ◌++◌, map, reverse, vec_len, vec_capacity}
use Rattle.map_kept.proofs.ports.leave_desks.Given as goal

abbrev pub invariant-desks : goal.invariant-desks
invariant-desks g l =
    (vec_len l.sessions + vec_len l.desks ≤ vec_capacity l.sessions)
    × (vec_len l.sessions + vec_len l.desks ≡ vec_len l.fn.sessions + vec_len l.fn.desks)
    × (vec_len l.receipts + vec_len l.desks ≤ vec_capacity l.receipts)
    × (l.sessions.items ++ map (λ desk. desk.desk.known) (reverse l.desks.items) ≡ l.fn.sessions.items ++ map (λ desk. desk.desk.known) l.fn.desks.items)
    × (l.receipts.items ++ map (λ desk. desk.receipts) (reverse l.desks.items) ≡ l.fn.receipts.items ++ map (λ desk. desk.receipts) l.fn.desks.items)

abbrev pub decreases-desks : goal.decreases-desks
decreases-desks g l = vec_len l.desks
