-- Notes that followed entries.
use Rattle.std.specs.Prelude.{◌≡◌, true, List}
use Rattle.machine_law.specs.Rules.{replay, is_legal}
use Rattle.notes_core.specs.Machine.{note_rules}
use Rattle.notes_core.specs.World.{Parts, state_of}
use Rattle.notes_core.specs.declared.commands.NoteEntry.{NoteEntry}

-- the notes are those after these entries, each of which was accepted
abbrev pub HasFollowed : Parts → List NoteEntry → Type 0
HasFollowed world entries = (is_legal note_rules entries ≡ true) × (state_of world ≡ replay note_rules entries)
