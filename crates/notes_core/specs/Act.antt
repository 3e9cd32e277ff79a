-- Notes, and what a command does to them.
use Rattle.std.specs.Prelude.{ℕ, ◌+◌, ◌-◌, ◌==◌, Bool, ◌&&◌, nat_lt, is_ok, if◌then◌else◌, List, [], ◌∷◌, ◌++◌, length, slice_get, slice_set, Option, Some, None, Result, Ok, Err}
use Rattle.std.specs.Option.{option_map_or}
use Rattle.osm_base.specs.Outcome.{◌>>=◌}
use Rattle.osm_base.specs.Place.{Position}
use Rattle.osm_base.specs.Stamp.{stamp_after}
use Rattle.osm_base.specs.declared.limits.TheConstants.{COMMENT_LIMIT}
use Rattle.osm_base.specs.declared.people.Owner.{Owner}
use Rattle.notes_core.specs.declared.commands.NoteCommand.{NoteCommand}
use Rattle.notes_core.specs.declared.commands.NoteCommand.TheVariants as command
use Rattle.notes_core.specs.declared.commands.NoteEntry.{NoteEntry}
use Rattle.notes_core.specs.declared.commands.NoteSubject.{NoteSubject}
use Rattle.notes_core.specs.declared.commands.NoteSubject.TheVariants.{New, Known}
use Rattle.notes_core.specs.declared.notes.Note.{Note}
use Rattle.notes_core.specs.declared.notes.NoteAction.{NoteAction}
use Rattle.notes_core.specs.declared.notes.NoteAction.TheVariants as action
use Rattle.notes_core.specs.declared.notes.NoteComment.{NoteComment}
use Rattle.notes_core.specs.declared.notes.NoteRefusal.{NoteRefusal}
use Rattle.notes_core.specs.declared.notes.NoteRefusal.TheVariants as refused
use Rattle.notes_core.specs.declared.notes.Notes.{Notes}

abbrev pub empty : Notes
empty = record { notes = []; last = 0 }

-- note 1 is the first
abbrev pub note : Notes → ℕ → Option Note
note S id = if id == 0 then None else slice_get S.notes (id - 1)

-- ---- the comment that a command makes

abbrev pub action_of : NoteCommand → NoteAction
action_of (command.OpenNote at text) = action.Opened
action_of (command.Comment id text) = action.Commented
action_of (command.CloseNote id text) = action.Closed
action_of (command.Reopen id text) = action.Reopened

abbrev pub text_of : NoteCommand → List ℕ
text_of (command.OpenNote at text) = text
text_of (command.Comment id text) = text
text_of (command.CloseNote id text) = text
text_of (command.Reopen id text) = text

-- what a command is about
abbrev pub subject_of : NoteCommand → NoteSubject
subject_of (command.OpenNote at text) = New at
subject_of (command.Comment id text) = Known id
subject_of (command.CloseNote id text) = Known id
subject_of (command.Reopen id text) = Known id

abbrev pub comment_of : Option Owner → ℕ → NoteCommand → NoteComment
comment_of caller t c = record { caller = caller; stamp = t; action = action_of c; text = text_of c }

-- ---- what it does to the note

abbrev pub closed_at : NoteAction → ℕ → Option ℕ
closed_at action.Closed t = Some t
closed_at action.Opened t = None
closed_at action.Commented t = None
closed_at action.Reopened t = None

-- when the note was closed, after a comment
abbrev pub closed_by : NoteComment → Option ℕ
closed_by c = closed_at c.action c.stamp

-- a note with its first comment
abbrev pub opened : Position → NoteComment → Note
opened at c = record { at = at; created = c.stamp; closed = None; comments = c ∷ [] }

-- a note with one comment more
abbrev pub commented : Note → NoteComment → Note
commented n c = record n { closed = closed_by c; comments = n.comments ++ c ∷ [] }

-- ---- what a command comes to

-- what an accepted command leaves, its stamp aside, and the note that it answers
pub record Effect : Type 0 where
  pub state : Notes
  pub id : ℕ
  pub note : Note

abbrev pub with_note : Notes → Note → Effect
with_note S n = record { state = record S { notes = S.notes ++ n ∷ [] }; id = length S.notes + 1; note = n }

abbrev pub changed : Notes → ℕ → Note → Effect
changed S id n = record { state = record S { notes = slice_set S.notes (id - 1) n }; id = id; note = n }

abbrev pub known : Notes → ℕ → Result Note NoteRefusal
known S id = option_map_or (λ n. Ok n) (note S id) (Err (refused.NoNote id))

abbrev pub still_open : ℕ → Note → Result Note NoteRefusal
still_open id n = option_map_or (λ at. Err (refused.NoteClosed at id)) n.closed (Ok n)

abbrev pub now_closed : ℕ → Note → Result Note NoteRefusal
now_closed id n = option_map_or (λ at. Ok n) n.closed (Err (refused.NoteOpen id))

-- there is room for one more comment
abbrev pub not_full : ℕ → Note → Result Note NoteRefusal
not_full id n = if nat_lt (length n.comments) COMMENT_LIMIT then Ok n else Err (refused.NoteFull id)

abbrev pub takes_comment : ℕ → Note → Result Note NoteRefusal
takes_comment id n = still_open id n >>= not_full id

abbrev pub takes_reopening : ℕ → Note → Result Note NoteRefusal
takes_reopening id n = now_closed id n >>= not_full id

abbrev pub open_note : Notes → ℕ → Result Note NoteRefusal
open_note S id = known S id >>= still_open id

abbrev pub closed_note : Notes → ℕ → Result Note NoteRefusal
closed_note S id = known S id >>= now_closed id

-- the note that a comment is about, and the one that a reopening is about
abbrev pub commentable_note : Notes → ℕ → Result Note NoteRefusal
commentable_note S id = known S id >>= takes_comment id

abbrev pub reopenable_note : Notes → ℕ → Result Note NoteRefusal
reopenable_note S id = known S id >>= takes_reopening id

-- what a command of a caller comes to at a stamp; a closing needs no room, so that an open note can always be closed
abbrev pub judge : Notes → Option Owner → ℕ → NoteCommand → Result Effect NoteRefusal
judge S caller t (command.OpenNote at text) = Ok (with_note S (opened at (comment_of caller t (command.OpenNote at text))))
judge S caller t (command.Comment id text) =
    commentable_note S id >>= λ n. Ok (changed S id (commented n (comment_of caller t (command.Comment id text))))
judge S caller t (command.CloseNote id text) =
    open_note S id >>= λ n. Ok (changed S id (commented n (comment_of caller t (command.CloseNote id text))))
judge S caller t (command.Reopen id text) =
    reopenable_note S id >>= λ n. Ok (changed S id (commented n (comment_of caller t (command.Reopen id text))))

abbrev pub settled : Notes → ℕ → Result Effect NoteRefusal → Notes
settled S t (Ok done) = record done.state { last = t }
settled S t (Err r) = S

-- ---- entries

-- the state after an entry
abbrev pub after : Notes → NoteEntry → Notes
after S e = settled S (stamp_after S.last e.stamp) (judge S e.caller (stamp_after S.last e.stamp) e.command)

-- the entry's command is accepted at the entry's stamp, which is no earlier than the last one
abbrev pub takes : Notes → NoteEntry → Bool
takes S e = is_ok (judge S e.caller e.stamp e.command) && (stamp_after S.last e.stamp == e.stamp)

-- the entry of a command that is accepted at a moment
abbrev pub entry_of : Notes → ℕ → ℕ → Option Owner → ℕ → NoteCommand → NoteEntry
entry_of S session call caller moment c = record {
  session = session;
  call = call;
  caller = caller;
  stamp = stamp_after S.last moment;
  command = c;
}
