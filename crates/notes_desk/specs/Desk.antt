-- A desk of the notes for a session of a hub: what it answers is told as for any machine, with the rules of notes.
use Rattle.std.specs.Prelude.{ℕ}
use Rattle.http_link.specs.declared.desk.Reply.{Reply}
use Rattle.http_wire.specs.declared.message.Message.{Message}
use Rattle.notes_core.specs.Machine.{note_rules}
use Rattle.notes_core.specs.declared.commands.NoteEntry.{NoteEntry}
use Rattle.snapshot_hub.specs.Known.{Known}
use Rattle.user_table.specs.Users.{Users}
use Rattle.session_desk.specs.Answered.{AtDesk, RowOf, RowsStay, Replies, Allows}
use Rattle.desk_parts.specs.Answered.{AnswersMessage}
use Rattle.desk_parts.specs.Laws.{answers_stay}
use Rattle.notes_desk.specs.Request.{notes_request_of}

-- what one message may be answered: its request has a row of "answered" by the rules of notes
abbrev pub note_row : RowOf NoteEntry
note_row = AnswersMessage note_rules notes_request_of

abbrev pub NoteReplies : Users → Known NoteEntry → Message → ℕ → Reply → Known NoteEntry → Type 0
NoteReplies users old message moment reply new = Replies note_row users old message moment reply new

abbrev pub AllowsNotes : AtDesk NoteEntry → Message → ℕ → Reply → AtDesk NoteEntry → Type 0
AllowsNotes old message moment reply new = Allows note_row old message moment reply new

-- what is answered against entries is so against more
pub note_rows_stay : RowsStay note_row
note_rows_stay = answers_stay note_rules notes_request_of
