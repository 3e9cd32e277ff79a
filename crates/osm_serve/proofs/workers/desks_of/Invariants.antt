use Rattle.std.proofs.Common.{◌≡◌, ◌++◌, map, reverse, vec_len}
use Rattle.desk_serve.specs.Desks.{at_desk}
use Rattle.osm_serve.proofs.workers.desks_of.Given as goal

abbrev pub invariant-sessions : goal.invariant-sessions
invariant-sessions g l =
    l.desks.items ++ map (at_desk l.users) (reverse l.sessions.items) ≡ map (at_desk l.users) l.fn.sessions.items

abbrev pub decreases-sessions : goal.decreases-sessions
decreases-sessions g l = vec_len l.sessions
