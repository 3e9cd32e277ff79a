use Rattle.durable_log.proofs.LineEach.{are_lines, line_each}
use Rattle.durable_log.proofs.laws.lines_law.Goals as goal

pub returns : goal.returns
returns g c = λ line lines none more entries all.
    (are_lines c.batch_law.ensures.counts c.batch_law.ensures.fronts line lines none more entries all, line_each c.batch_law.ensures.counts c.batch_law.ensures.fronts line lines none more entries all)
