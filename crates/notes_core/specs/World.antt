-- What the notes in their store stand for, and the room that they have.
use Rattle.std.specs.Prelude.{◌≡◌, ℕ, ◌<◌, ◌≤◌, ◌-◌, ◌==◌, Bool, false, if◌then◌else◌, List, map, slice_get, slice_index}
use Rattle.std.specs.Option.{option_map_or}
use Rattle.osm_base.specs.Place.{Position}
use Rattle.osm_base.specs.declared.limits.TheConstants.{MOMENT_LIMIT}
use Rattle.tile_grid.specs.Cell.{cell_of, cell_eq}
use Rattle.tile_grid.specs.Grid.{times, free_at}
use Rattle.tile_grid.specs.Tile.{Held}
use Rattle.tile_grid.specs.declared.cells.Cell.{Cell}
use Rattle.notes_core.specs.Act.{subject_of}
use Rattle.notes_core.specs.declared.commands.NoteCommand.{NoteCommand}
use Rattle.notes_core.specs.declared.commands.NoteSubject.{NoteSubject}
use Rattle.notes_core.specs.declared.commands.NoteSubject.TheVariants.{New, Known}
use Rattle.notes_core.specs.declared.notes.Note.{Note}
use Rattle.notes_core.specs.declared.notes.NoteComment.{NoteComment}
use Rattle.notes_core.specs.declared.notes.Notes.{Notes}

-- ---- moments

-- no later than the latest moment that is told apart
abbrev pub IsTimelyMoment : ℕ → Type 0
IsTimelyMoment t = t ≤ MOMENT_LIMIT

abbrev pub IsTimelyComment : NoteComment → Type 0
IsTimelyComment c = IsTimelyMoment c.stamp

-- ---- the store

-- a note, and how many more comments of it need no memory
pub record Kept : Type 0 where
  pub note : Note
  pub spare : ℕ

-- the notes, how many more need no memory, their cells, and the last stamp
pub record Parts : Type 0 where
  pub kept : List Kept
  pub spare : ℕ
  pub cells : List (List Held)
  pub last : ℕ

abbrev pub notes_of : List Kept → List Note
notes_of ks = map (λ k. k.note) ks

abbrev pub spares_of : List Kept → List ℕ
spares_of ks = map (λ k. k.spare) ks

-- the notes that the store stands for
abbrev pub state_of : Parts → Notes
state_of w = record { notes = notes_of w.kept; last = w.last }

-- ---- the cells

abbrev pub places_of : List Note → List Position
places_of notes = map (λ n. n.at) notes

-- there is such a note, and it lies in the cell
abbrev pub lies_in : List Position → Cell → ℕ → Bool
lies_in places c id = if id == 0 then false else option_map_or (λ p. cell_eq c (cell_of p)) (slice_get places (id - 1)) false

-- each note is placed once, in the cell in which it lies, and nothing else is
pub record IsPlaced (places : List Position) (g : List (List Held)) : Type 0 where
  pub holds : (c : Cell) (id : ℕ) → times g c id ≡ if lies_in places c id then 1 else 0

-- what every store has
pub record IsSound (kept : List Kept) (cells : List (List Held)) (last : ℕ) : Type 0 where
  pub timely : IsTimelyMoment last
  pub placed : IsPlaced (places_of (notes_of kept)) cells

-- ---- room

-- one more comment of a note needs no memory
abbrev pub HasCommentRoom : Parts → ℕ → Type 0
HasCommentRoom w id = 0 < slice_index (spares_of w.kept) (id - 1)

-- a command about this needs no memory
abbrev pub HasRoomAt : Parts → NoteSubject → Type 0
HasRoomAt w (New at) = (0 < w.spare) × (0 < free_at w.cells at)
HasRoomAt w (Known id) = HasCommentRoom w id

abbrev pub HasRoomFor : Parts → NoteCommand → Type 0
HasRoomFor w c = HasRoomAt w (subject_of c)
