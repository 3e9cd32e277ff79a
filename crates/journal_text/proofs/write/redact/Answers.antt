use Rattle.journal_text.specs.Line.{command}
use Rattle.journal_text.proofs.write.redact.Goals as goal

pub returns : goal.returns
unfolding command
returns c = rw c.kind_name.ensures at c.record.ensures
