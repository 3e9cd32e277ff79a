use Rattle.std.proofs.lemmas.Result.{on_ok_weaker}
use Rattle.upload_check.proofs.Changed.{revised_is}
use Rattle.upload_check.proofs.counts.revise.Goals as goal

pub returns-clause-revised : goal.returns-clause-revised
returns-clause-revised c =
    on_ok_weaker c.set.result
    (λ each E here. revised_is E c.args.key c.args.holds c.args.standings.now c.set.new.self c.args.stood c.in_ok-versions.versions here c.in_ok-versions.ensures each)
    c.set.ensures.set
