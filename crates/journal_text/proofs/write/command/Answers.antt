use Rattle.journal_text.specs.Line.{command}
use Rattle.journal_text.proofs.write.command.Goals as goal

pub returns-in-Single : goal.returns-in-Single
unfolding command
returns-in-Single c =
    let written = rw c.change.ensures.value at c.with_change-in-Single.ensures in
    rw c.in-Single.is written
