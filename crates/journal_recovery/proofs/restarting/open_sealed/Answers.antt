use Rattle.std.proofs.Common.{ap}
use Rattle.journal_recovery.proofs.Moments.{then_sealed}
use Rattle.journal_recovery.proofs.restarting.open_sealed.Goals as goal

pub returns-in-Ok-seal-clause-any_moment : goal.returns-in-Ok-seal-clause-any_moment
returns-in-Ok-seal-clause-any_moment g c =
    let d = g.D.Device in
    let kept = c.in-Ok.ensures.ok.0 in
    then_sealed d.moment d.left_since c.args.device c.in-Ok.open.device c.seal.new.self.device c.args.file.now c.in-Ok.open.text (ap (λ k. k.text) kept) c.in-Ok.ensures.any_moment
    (c.seal.ensures.any_moment (ap (λ k. k.broken) kept))
