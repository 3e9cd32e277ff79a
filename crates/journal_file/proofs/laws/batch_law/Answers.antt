use Rattle.journal_file.proofs.Lines.{is_batch}
use Rattle.journal_file.proofs.OneLine.{line_counts, line_fronts}
use Rattle.journal_file.proofs.laws.batch_law.Goals as goal

pub returns-clause-ends : goal.returns-clause-ends
returns-clause-ends c = is_batch

pub returns-clause-counts : goal.returns-clause-counts
returns-clause-counts c = line_counts

pub returns-clause-fronts : goal.returns-clause-fronts
returns-clause-fronts c = line_fronts
