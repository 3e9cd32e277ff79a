-- The lists of users by their places.
use Rattle.std.specs.Prelude.{◌≡◌, ◌≢◌, ℕ, true, false, List, slice_index_or}
use Rattle.reverse_refs.specs.Users.{UserRow, no_row}
use Rattle.reverse_refs.specs.declared.slots.Slot.{Slot}

abbrev pub no_slot : Slot
no_slot = record { list = no_row; next = 0; is_used = false }

abbrev pub slot_at : List Slot → ℕ → Slot
slot_at slots p = slice_index_or slots p no_slot

-- a list was put at a place that none was at, and all others are where they were
pub record IsTaken (old new : List Slot) (place : ℕ) (list : UserRow) : Type 0 where
  pub was : (slot_at old place).is_used ≡ false
  pub used : (slot_at new place).is_used ≡ true
  pub holds : (slot_at new place).list ≡ list
  pub same : (p : ℕ) → p ≢ place → slot_at new p ≡ slot_at old p
