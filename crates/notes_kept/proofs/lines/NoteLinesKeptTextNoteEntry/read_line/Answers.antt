use Rattle.std.proofs.Common.{subst}
use Rattle.std.specs.Prelude.{Err}
use Rattle.line_text.specs.Found.{IsEntryRead}
use Rattle.line_text.specs.declared.faults.LineFault.{LineFault}
use Rattle.notes_kept.proofs.lines.NoteLinesKeptTextNoteEntry.read_line.Goals as goal

pub returns-in-Err-NotLine-clause-refused : goal.returns-in-Err-NotLine-clause-refused
returns-in-Err-NotLine-clause-refused c told entry typed same =
    subst (λ (fault : LineFault). IsEntryRead (Err fault) entry) c.in-Err-NotLine.field-0-is (c.in-Err-NotLine.ensures.all entry typed same)
