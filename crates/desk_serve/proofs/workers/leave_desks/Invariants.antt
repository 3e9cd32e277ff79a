use Rattle.std.proofs.Common.{◌≡◌, ◌+◌, ◌≤◌, ◌++◌, map, reverse, vec_len, vec_capacity}
use Rattle.desk_serve.proofs.workers.leave_desks.Given as goal

abbrev pub invariant-desks : goal.invariant-desks
invariant-desks g l =
    let knows = g.K.DeskMaker.knows in
    let keeps = g.K.DeskMaker.keeps in
    (vec_len l.sessions + vec_len l.desks ≤ vec_capacity l.sessions)
    × (vec_len l.sessions + vec_len l.desks ≡ vec_len l.fn.sessions + vec_len l.fn.desks)
    × (map knows l.sessions.items ++ map (λ desk. (keeps desk).known) (reverse l.desks.items)
    ≡ map knows l.fn.sessions.items ++ map (λ desk. (keeps desk).known) l.fn.desks.items)

abbrev pub decreases-desks : goal.decreases-desks
decreases-desks g l = vec_len l.desks
