-- The journal of notes as a text: a header and a line for each entry, each ended by byte 10.
use Rattle.std.specs.Prelude.{ℕ, List, [], ◌∷◌, ◌++◌, codes}
use Rattle.hub_core.specs.Journal.{IsJournal}
use Rattle.notes_core.specs.Machine.{note_rules}
use Rattle.notes_core.specs.declared.commands.NoteEntry.{NoteEntry}
use Rattle.line_text.specs.Lines.{lines_of}
use Rattle.notes_text.specs.Line.{line}

-- the first line, with the byte 10 that ends it
abbrev pub header : List ℕ
header = codes "osm-notes-journal 1" ++ 10 ∷ []

abbrev pub lines : List NoteEntry → List ℕ
lines es = lines_of line es

abbrev pub text_of : List NoteEntry → List ℕ
text_of es = header ++ lines es

-- each entry may follow those before it, by the rules of notes
abbrev pub IsLegal : List NoteEntry → Type 0
IsLegal es = IsJournal note_rules es
