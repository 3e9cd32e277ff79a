use Rattle.std.proofs.Common.{◌≡◌, true, ap}
use Rattle.machine_law.specs.Rules.{is_legal}
use Rattle.snapshot_hub.proofs.Legal.{consistent_at}
use Rattle.snapshot_hub.proofs.session.Session.law.Goals as goal

pub returns-clause-consistent : goal.returns-clause-consistent
returns-clause-consistent g c point begins =
    let M = g.met.M.Machine in
    let rules = g.M.Machine.rules in
    let same : c.self.inside.standing.front ≡ c.args.self.now.front = ap (λ k. k.front) c.self.view_is in
    let legal : is_legal rules c.args.self.now.front ≡ true = rw (← same) c.law.ensures.known.legal in
    consistent_at rules M.start_consistent M.after_consistent c.args.self.now.front point legal begins
