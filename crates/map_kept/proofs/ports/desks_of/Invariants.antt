use Rattle.std.proofs.Common.{◌≡◌, false, ◌++◌, map, reverse, vec_len}
use Rattle.kept_desk.specs.Kept.{at_kept}
use Rattle.desk_serve.specs.Desks.{at_desk}
use Rattle.map_kept.proofs.ports.desks_of.Given as goal

abbrev pub invariant-sessions : goal.invariant-sessions
invariant-sessions g l =
    l.desks.items ++ map (λ s. at_kept (at_desk l.maker.users.now s) 0 l.maker.had.now false) (reverse l.sessions.items)
    ≡ map (λ s. at_kept (at_desk l.maker.users.now s) 0 l.maker.had.now false) l.fn.sessions.items

abbrev pub decreases-sessions : goal.decreases-sessions
decreases-sessions g l = vec_len l.sessions
