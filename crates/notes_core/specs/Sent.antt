-- For private clauses: the note that is written from what is kept of it and from the entry that comes next.
use Rattle.std.specs.Prelude.{ℕ, List, [], ◌∷◌, Option}
use Rattle.std.specs.Option.{option_map_or}
use Rattle.osm_base.specs.Place.{Position}
use Rattle.notes_core.specs.Act.{comment_of}
use Rattle.notes_core.specs.World.{Kept, IsTimelyMoment}
use Rattle.notes_core.specs.declared.commands.NoteEntry.{NoteEntry}
use Rattle.notes_core.specs.declared.notes.Note.{Note}
use Rattle.notes_core.specs.declared.notes.NoteComment.{NoteComment}
use Rattle.notes_core.specs.declared.notes.NoteRefusal.{NoteRefusal}
use Rattle.notes_core.specs.declared.notes.NoteRefusal.TheVariants as refused

abbrev pub said_before : Option Kept → List NoteComment
said_before before = option_map_or (λ k. k.note.comments) before []

abbrev pub said_by : Option NoteEntry → List NoteComment
said_by next = option_map_or (λ e. comment_of e.caller e.stamp e.command ∷ []) next []

abbrev pub note_with : Position → ℕ → Option ℕ → List NoteComment → Note
note_with at created closed comments = record { at = at; created = created; closed = closed; comments = comments }

-- the end that it tells is bounded
abbrev pub HasTimelyEnd : NoteRefusal → Type 0
HasTimelyEnd (refused.NoteClosed at id) = IsTimelyMoment at
HasTimelyEnd (refused.NoNote id) = Unit {0}
HasTimelyEnd (refused.NoteOpen id) = Unit {0}
HasTimelyEnd (refused.NoteFull id) = Unit {0}
HasTimelyEnd (refused.NotesArea area) = Unit {0}
