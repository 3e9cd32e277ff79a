-- The text of the notes' journal goes on with the lines of more entries.
use Rattle.std.specs.Prelude.{◌≡◌, List, ◌++◌}
use Rattle.line_text.proofs.LinesOf.{text-append}
use Rattle.notes_core.specs.declared.commands.NoteEntry.{NoteEntry}
use Rattle.notes_text.specs.Line.{line}
use Rattle.notes_text.specs.Text.{header, lines, text_of}

pub notes_more : (es more : List NoteEntry) → text_of (es ++ more) ≡ text_of es ++ lines more
notes_more = text-append line header
