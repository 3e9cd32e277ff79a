use Rattle.std.proofs.Common.{◌≡◌, ◌≤◌, ◌+◌, ◌++◌, reverse, vec_len, vec_capacity}
use Rattle.link_workers.specs.Seats.{ports_of, sessions_of}
use Rattle.link_workers.proofs.seat.unseat_all.Given as goal

abbrev pub invariant-workers : goal.invariant-workers
invariant-workers g l =
    (l.sessions.items ++ sessions_of (reverse l.workers.items) ≡ l.fn.sessions.items ++ sessions_of l.fn.workers.items)
    × (l.ports.items ++ ports_of (reverse l.workers.items) ≡ l.fn.ports.items ++ ports_of l.fn.workers.items)
    × (vec_len l.sessions + vec_len l.workers ≤ vec_capacity l.sessions)
    × (vec_len l.ports + vec_len l.workers ≤ vec_capacity l.ports)
    × (vec_len l.ports + vec_len l.workers ≡ vec_len l.fn.ports + vec_len l.fn.workers)

abbrev pub decreases-workers : goal.decreases-workers
decreases-workers g l = vec_len l.workers
