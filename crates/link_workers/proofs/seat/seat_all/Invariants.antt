use Rattle.std.proofs.Common.{◌≡◌, ◌≤◌, ◌+◌, ◌++◌, reverse, vec_len, vec_capacity}
use Rattle.link_workers.specs.Seats.{seated}
use Rattle.link_workers.proofs.seat.seat_all.Given as goal

abbrev pub invariant-seats : goal.invariant-seats
invariant-seats g l =
    (vec_len l.sessions ≡ vec_len l.ports)
    × (vec_len l.workers + vec_len l.sessions ≡ vec_len l.fn.ports)
    × (vec_len l.fn.ports ≤ vec_capacity l.workers)
    × (vec_len l.fn.ports ≤ vec_capacity l.sessions)
    × (vec_len l.fn.ports ≤ vec_capacity l.ports)
    × (l.workers.items ++ seated (reverse l.sessions.items) (reverse l.ports.items) ≡ seated l.fn.sessions.items l.fn.ports.items)

abbrev pub decreases-seats : goal.decreases-seats
decreases-seats g l = vec_len l.sessions
