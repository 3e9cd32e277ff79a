use Rattle.std.proofs.Common.{◌≡◌, ◌+◌, ◌≤◌, ◌++◌, map, reverse, vec_len, vec_capacity}
use Rattle.kept_serve.proofs.workers.leave_desks.Given as goal

abbrev pub invariant-desks : goal.invariant-desks
invariant-desks g l =
    let knows = g.X.KeptMaker.knows in
    let keeps = g.X.KeptMaker.keeps in
    (vec_len l.sessions + vec_len l.desks ≤ vec_capacity l.sessions)
    × (vec_len l.sessions + vec_len l.desks ≡ vec_len l.fn.sessions + vec_len l.fn.desks)
    × (vec_len l.receipts + vec_len l.desks ≤ vec_capacity l.receipts)
    × (map knows l.sessions.items ++ map (λ desk. (keeps desk).desk.known) (reverse l.desks.items)
    ≡ map knows l.fn.sessions.items ++ map (λ desk. (keeps desk).desk.known) l.fn.desks.items)
    × (l.receipts.items ++ map (λ desk. (keeps desk).receipts) (reverse l.desks.items) ≡ l.fn.receipts.items ++ map (λ desk. (keeps desk).receipts) l.fn.desks.items)

abbrev pub decreases-desks : goal.decreases-desks
decreases-desks g l = vec_len l.desks
