use Rattle.std.proofs.Common.{◌≡◌, false, ◌++◌, map, reverse, vec_len}
use Rattle.kept_desk.specs.Kept.{at_kept}
use Rattle.desk_serve.specs.Desks.{at_desk}
use Rattle.kept_serve.proofs.workers.desks_of.Given as goal

abbrev pub invariant-sessions : goal.invariant-sessions
invariant-sessions g l =
    let X = g.X.KeptMaker in
    map X.keeps l.desks.items ++ map (λ s. at_kept (at_desk (X.users l.maker) (X.knows s)) 0 (X.had l.maker) false) (reverse l.sessions.items)
    ≡ map (λ s. at_kept (at_desk (X.users l.maker) (X.knows s)) 0 (X.had l.maker) false) l.fn.sessions.items

abbrev pub decreases-sessions : goal.decreases-sessions
decreases-sessions g l = vec_len l.sessions
