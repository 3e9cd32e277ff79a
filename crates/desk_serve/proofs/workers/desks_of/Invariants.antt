use Rattle.std.proofs.Common.{◌≡◌, ◌++◌, map, reverse, vec_len}
use Rattle.desk_serve.specs.Desks.{at_desk}
use Rattle.desk_serve.proofs.workers.desks_of.Given as goal

abbrev pub invariant-sessions : goal.invariant-sessions
invariant-sessions g l =
    let K = g.K.DeskMaker in
    map K.keeps l.desks.items ++ map (λ s. at_desk (K.users l.maker) (K.knows s)) (reverse l.sessions.items)
    ≡ map (λ s. at_desk (K.users l.maker) (K.knows s)) l.fn.sessions.items

abbrev pub decreases-sessions : goal.decreases-sessions
decreases-sessions g l = vec_len l.sessions
