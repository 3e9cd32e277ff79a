-- What stands in a row, as the users of an element.
use Rattle.std.specs.Prelude.{◌≡◌, ◌≢◌, ℕ, ◌+◌, ◌<◌, ◌≤◌, true, List, [], ◌∷◌, length, slice_index_or, sum_by}
use Rattle.osm_base.specs.declared.keys.Kind.TheVariants.{Node}
use Rattle.osm_base.specs.declared.keys.Key.{Key}
use Rattle.reverse_refs.specs.Users.{UserRow, WideList, no_row}
use Rattle.reverse_refs.specs.Slots.{slot_at}
use Rattle.reverse_refs.specs.declared.slots.Slot.{Slot}
use Rattle.reverse_refs.specs.declared.held.Held.{Held}
use Rattle.reverse_refs.specs.declared.held.Held.TheVariants.{Nothing, Promised, One, Left, WideOne, WideLeft, Listed}

abbrev pub key_at : List Key → ℕ → Key
key_at keys p = slice_index_or keys p (record { kind = Node; id = 0 })

abbrev pub held_at : List Held → ℕ → Held
held_at rows i = slice_index_or rows i Nothing

abbrev pub row_held : List Slot → List Key → Held → UserRow
row_held slots keys Nothing = no_row
row_held slots keys Promised = record no_row { free = 1 }
row_held slots keys (One kind id) = record no_row { present = record { kind = kind; id = id } ∷ [] }
row_held slots keys (Left kind id) = record no_row { past = record { kind = kind; id = id } ∷ [] }
row_held slots keys (WideOne place) = record no_row { present = key_at keys place ∷ [] }
row_held slots keys (WideLeft place) = record no_row { past = key_at keys place ∷ [] }
row_held slots keys (Listed place) = (slot_at slots place).list

-- for how many more wide keys a row wants room: for one where it waits for its first user
abbrev pub promises : Held → ℕ
promises Promised = 1
promises Nothing = 0
promises (One kind id) = 0
promises (Left kind id) = 0
promises (WideOne place) = 0
promises (WideLeft place) = 0
promises (Listed place) = 0

-- the place behind that of a row's wide key
abbrev pub wide_end : Held → ℕ
wide_end (WideOne place) = place + 1
wide_end (WideLeft place) = place + 1
wide_end Nothing = 0
wide_end Promised = 0
wide_end (One kind id) = 0
wide_end (Left kind id) = 0
wide_end (Listed place) = 0

-- a row needs no list and awaits nothing, and its wide key is one of so many
pub record IsSmall (many : ℕ) (held : Held) : Type 0 where
  pub apart : (p : ℕ) → held ≢ Listed p
  pub settled : promises held ≡ 0
  pub within : wide_end held ≤ many

-- wide keys stay where they stand
pub record IsAdded (old new : List Key) : Type 0 where
  pub longer : length old ≤ length new
  pub same : (p : ℕ) → p < length old → key_at new p ≡ key_at old p

-- each list that a row names is in use, by that row alone; its wide key is there; and there is room for one more for each row that waits
pub record IsSound (rows : List Held) (slots : List Slot) (wide : WideList) : Type 0 where
  pub used : (i p : ℕ) → held_at rows i ≡ Listed p → (slot_at slots p).is_used ≡ true
  pub apart : (i j p : ℕ) → held_at rows i ≡ Listed p → held_at rows j ≡ Listed p → i ≡ j
  pub within : (i : ℕ) → wide_end (held_at rows i) ≤ length wide.keys
  pub awaited : sum_by promises rows ≤ wide.awaited
