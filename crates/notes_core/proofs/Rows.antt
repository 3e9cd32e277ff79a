-- What the definitions give for some commands and queries, one after another on one list of notes.
use Rattle.std.proofs.Common.{◌≡◌, ℕ, true, false, List, [], ◌∷◌, pos, Option, Some, None, Ok, Err, codes, replicate, refl}
use Rattle.std.specs.Prelude.{is_ok}
use Rattle.osm_base.specs.Place.{Area, Position, at_position}
use Rattle.osm_base.specs.declared.people.Owner.{Owner}
use Rattle.notes_core.specs.Act.{empty, judge, settled, known}
use Rattle.notes_core.specs.Plan.{comments_of}
use Rattle.notes_core.specs.Search.{found}
use Rattle.notes_core.specs.Shown.{refusal_status}
use Rattle.notes_core.specs.declared.commands.NoteCommand.TheVariants.{OpenNote, Comment, CloseNote, Reopen}
use Rattle.notes_core.specs.declared.notes.Note.{Note}
use Rattle.notes_core.specs.declared.notes.NoteAction.TheVariants as action
use Rattle.notes_core.specs.declared.notes.NoteComment.{NoteComment}
use Rattle.notes_core.specs.declared.notes.NoteRefusal.TheVariants.{NoNote, NoteClosed, NoteOpen, NoteFull, NotesArea}
use Rattle.notes_core.specs.declared.notes.Notes.{Notes}

abbrev munich : Position
munich = record { lat7 = pos 481400000; lon7 = pos 115400000 }

abbrev alice : Option Owner
alice = Some (record { id = 1; name = codes "alice" })

abbrev gate : NoteComment
gate = record { caller = None; stamp = 1700000000; action = action.Opened; text = codes "gate locked" }

abbrev open_gate : Note
open_gate = record { at = munich; created = 1700000000; closed = None; comments = gate ∷ [] }

abbrev fixed : NoteComment
fixed = record { caller = alice; stamp = 1700000010; action = action.Closed; text = [] }

abbrev again : NoteComment
again = record { caller = alice; stamp = 1700000020; action = action.Reopened; text = codes "again" }

abbrev closed_gate : Note
closed_gate = record { at = munich; created = 1700000000; closed = Some 1700000010; comments = gate ∷ fixed ∷ [] }

abbrev reopened_gate : Note
reopened_gate = record { at = munich; created = 1700000000; closed = None; comments = gate ∷ fixed ∷ again ∷ [] }

abbrev notes : Note → ℕ → Notes
notes n last = record { notes = n ∷ []; last = last }

abbrev opened_state : Notes
opened_state = notes open_gate 1700000000

abbrev closed_state : Notes
closed_state = notes closed_gate 1700000010

-- ---- commands

-- somebody whom the server doesn't know opens a note, which is note 1
opens : judge empty None 1700000000 (OpenNote munich (codes "gate locked")) ≡ Ok (record { state = notes open_gate 0; id = 1; note = open_gate })
opens = refl

-- an accepted command sets the last stamp
stamped : settled empty 1700000000 (judge empty None 1700000000 (OpenNote munich (codes "gate locked"))) ≡ opened_state
stamped = refl

-- an open note isn't reopened
open_stays : judge opened_state alice 1700000010 (Reopen 1 (codes "again")) ≡ Err (NoteOpen 1)
open_stays = refl

-- alice closes it, and is told as the caller
closes : judge opened_state alice 1700000010 (CloseNote 1 []) ≡ Ok (record { state = notes closed_gate 1700000000; id = 1; note = closed_gate })
closes = refl

-- a closed note takes no comment, and isn't closed again
closed_stays : judge closed_state alice 1700000020 (Comment 1 (codes "still")) ≡ Err (NoteClosed 1700000010 1)
closed_stays = refl

closed_once : judge closed_state None 1700000020 (CloseNote 1 []) ≡ Err (NoteClosed 1700000010 1)
closed_once = refl

-- a refused command changes nothing
left : settled closed_state 1700000020 (judge closed_state alice 1700000020 (Comment 1 (codes "still"))) ≡ closed_state
left = refl

-- a reopened note is open
reopens : judge closed_state alice 1700000020 (Reopen 1 (codes "again")) ≡ Ok (record { state = notes reopened_gate 1700000010; id = 1; note = reopened_gate })
reopens = refl

-- there is no note 2, and never a note 0
unknown : judge opened_state alice 1700000010 (Comment 2 (codes "where")) ≡ Err (NoNote 2)
unknown = refl

unknown_first : known opened_state 0 ≡ Err (NoNote 0)
unknown_first = refl

-- one that has as many comments as it may have takes no further one
abbrev full : Option ℕ → Notes
full closed = notes (record { at = munich; created = 1700000000; closed = closed; comments = replicate 10000 gate }) 1700000010

full_stays : judge (full None) alice 1700000020 (Comment 1 (codes "still")) ≡ Err (NoteFull 1)
full_stays = refl

full_stays_closed : judge (full (Some 1700000010)) alice 1700000020 (Reopen 1 (codes "again")) ≡ Err (NoteFull 1)
full_stays_closed = refl

-- it is closed all the same
full_closes : is_ok (judge (full None) alice 1700000020 (CloseNote 1 [])) ≡ true
full_closes = refl

-- with one comment less there is room
nearly_full : is_ok (judge (notes (record open_gate { comments = replicate 9999 gate }) 0) alice 1700000020 (Comment 1 (codes "last"))) ≡ true
nearly_full = refl

-- ---- looks

one_comment : comments_of opened_state 1 ≡ 1
one_comment = refl

two_comments : comments_of closed_state 1 ≡ 2
two_comments = refl

no_comments : comments_of opened_state 2 ≡ 0
no_comments = refl

-- ---- searches

-- the position itself, edges included
abbrev around : Area
around = at_position munich

-- two open notes there, and a closed one between them
abbrev three : Notes
three = record { notes = open_gate ∷ closed_gate ∷ reopened_gate ∷ []; last = 1700000020 }

-- the newest first, open ones alone
finds_open : found three around false ≡ Ok (3 ∷ 1 ∷ [])
finds_open = refl

finds_all : found three around true ≡ Ok (3 ∷ 2 ∷ 1 ∷ [])
finds_all = refl

-- one unit to the east
finds_none : found three (record around { left = pos 115400001; right = pos 115400001 }) true ≡ Ok []
finds_none = refl

-- five degrees by five may be asked for, and no more
abbrev wide : Area
wide = record { left = pos 100000000; bottom = pos 450000000; right = pos 150000000; top = pos 500000000 }

finds_wide : found three wide false ≡ Ok (3 ∷ 1 ∷ [])
finds_wide = refl

too_wide : found three (record wide { right = pos 150000001 }) false ≡ Err (NotesArea 2500000050000000)
too_wide = refl

-- ---- statuses

abbrev statuses : List ℕ
statuses = refusal_status (NoNote 2) ∷ refusal_status (NoteClosed 1700000010 1) ∷ refusal_status (NoteOpen 1) ∷ refusal_status (NoteFull 1) ∷ refusal_status (NotesArea 2500000050000000) ∷ []

statuses_are : statuses ≡ 404 ∷ 409 ∷ 409 ∷ 409 ∷ 400 ∷ []
statuses_are = refl
