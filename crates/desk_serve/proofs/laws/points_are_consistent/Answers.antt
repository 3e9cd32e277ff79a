use Rattle.desk_serve.proofs.Sound.{kept_from}
use Rattle.desk_serve.proofs.laws.points_are_consistent.Goals as goal

pub returns : goal.returns
returns g c entries legal point =
    let M = g.met.M.Machine in
    let rules = g.M.Machine.rules in
    kept_from rules M.after_consistent rules.start entries point M.start_consistent legal
