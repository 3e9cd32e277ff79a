-- The notes in a box.
use Rattle.std.specs.Prelude.{ℕ, Bool, false, ◌&&◌, ◌||◌, is_none, nat_lt, if◌then◌else◌, List, [], ◌∷◌, take, reverse, filter, length, Result, Ok, Err}
use Rattle.std.specs.Option.{option_map_or}
use Rattle.osm_base.specs.Place.{Area, area_holds, square_units}
use Rattle.rising_lists.specs.Ids.{ids_to}
use Rattle.notes_core.specs.Act.{note}
use Rattle.notes_core.specs.declared.limits.TheConstants.{NOTES_AREA_LIMIT, NOTES_LIMIT}
use Rattle.notes_core.specs.declared.notes.Note.{Note}
use Rattle.notes_core.specs.declared.notes.NoteRefusal.{NoteRefusal}
use Rattle.notes_core.specs.declared.notes.NoteRefusal.TheVariants.{NotesArea}
use Rattle.notes_core.specs.declared.notes.Notes.{Notes}

-- it lies in the box, edges included, and is open unless closed ones are asked for too
abbrev pub shows : Area → Bool → Note → Bool
shows within closed n = area_holds within n.at && (closed || is_none n.closed)

abbrev pub is_shown : Notes → Area → Bool → ℕ → Bool
is_shown S within closed id = option_map_or (shows within closed) (note S id) false

-- by number
abbrev pub notes_within : Notes → Area → Bool → List ℕ
notes_within S within closed = filter (is_shown S within closed) (ids_to (length S.notes))

-- the newest first
abbrev pub newest_within : Notes → Area → Bool → List ℕ
newest_within S within closed = take NOTES_LIMIT (reverse (notes_within S within closed))

abbrev pub found : Notes → Area → Bool → Result (List ℕ) NoteRefusal
found S within closed =
    if nat_lt NOTES_AREA_LIMIT (square_units within) then Err (NotesArea (square_units within)) else Ok (newest_within S within closed)

-- a note with its number
pub record Numbered : Type 0 where
  pub id : ℕ
  pub note : Note

-- the note of a number, where there is one
abbrev pub numbered : Notes → ℕ → List Numbered
numbered S id = option_map_or (λ n. record { id = id; note = n } ∷ []) (note S id) []
