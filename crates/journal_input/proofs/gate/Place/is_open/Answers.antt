use Rattle.std.proofs.Common.{true, false}
use Rattle.journal_input.proofs.Places.{all_counts, less_counts}
use Rattle.journal_input.proofs.gate.Place.is_open.Goals as goal

pub returns-in-LineStart : goal.returns-in-LineStart
returns-in-LineStart c = λ text sees. all_counts true text (rw c.in-LineStart.is at sees)

pub returns-in-InLine : goal.returns-in-InLine
returns-in-InLine c = λ text sees. all_counts false text (rw c.in-InLine.is at sees)

pub returns-in-BehindGate : goal.returns-in-BehindGate
returns-in-BehindGate c = λ text sees. less_counts text (rw c.in-BehindGate.is at sees)
