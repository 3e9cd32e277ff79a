use Rattle.notes_text.specs.Line.{line_data}
use Rattle.notes_text.proofs.PlainLine.{begins, line_plain}
use Rattle.notes_text.proofs.law.lines_are_plain.Goals as goal

pub returns-clause-begins : goal.returns-clause-begins
returns-clause-begins c = begins

pub returns-clause-one : goal.returns-clause-one
returns-clause-one c = λ e is. c.texts_are_read_again.ensures.line (line_data e) (line_plain e is)

pub returns-clause-full : goal.returns-clause-full
returns-clause-full c = λ e is. c.texts_are_read_again.ensures.full (line_data e) (line_plain e is)
