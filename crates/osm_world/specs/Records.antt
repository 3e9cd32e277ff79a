-- The changesets in their places, with the room for their work.
use Rattle.std.specs.Prelude.{◌≡◌, ℕ, ◌+◌, ◌<◌, ◌≤◌, List, length, map, slice_index}
use Rattle.changeset_core.specs.Kept.{Kept}
use Rattle.changeset_core.specs.declared.records.ChangesetRecord.{ChangesetRecord}

abbrev pub records : List Kept → List ChangesetRecord
records ks = map (λ k. k.kept) ks

abbrev pub rooms : List Kept → List ℕ
rooms ks = map (λ k. k.free) ks

abbrev pub ids : List Kept → List ℕ
ids ks = map (λ k. k.id) ks

-- changeset 1 is the first
abbrev pub AreNumbered : List Kept → Type 0
AreNumbered ks = (i : ℕ) → i < length ks → slice_index (ids ks) i ≡ i + 1

-- no changeset has more room than before
abbrev pub HasNoMoreRoom : List Kept → List Kept → Type 0
HasNoMoreRoom old new = (i : ℕ) → slice_index (rooms new) i ≤ slice_index (rooms old) i
