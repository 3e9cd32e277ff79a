-- What is noted of elements of before, by their ids.
use Rattle.std.specs.Prelude.{◌≡◌, ℕ, ◌<◌, List, Option, Some, None, slice_get, if◌then◌else◌, ◌==◌}
use Rattle.std.specs.Map.{lookup}
use Rattle.std.specs.Ordering.{nat_cmp}
use Rattle.std.specs.BTreeMap.{is_at}
use Rattle.upload_check.specs.declared.standings.Standing.{Standing}

abbrev pub OlderNotes : Type 0
OlderNotes = List (ℕ × Standing)

-- the first that is noted of an id
abbrev pub standing_of : OlderNotes → ℕ → Option Standing
standing_of es id = lookup (is_at (nat_cmp id)) es

-- the ids rise
pub record IsInOrder (es : OlderNotes) : Type 0 where
  pub each : (i j : ℕ) (e f : ℕ × Standing) → i < j → slice_get es i ≡ Some e → slice_get es j ≡ Some f → e.0 < f.0

-- each id is less than this one
abbrev pub AreBelow : OlderNotes → ℕ → Type 0
AreBelow es id = (i : ℕ) (e : ℕ × Standing) → slice_get es i ≡ Some e → e.0 < id

-- an id is at a place
pub record IsAtPlace (es : OlderNotes) (id place : ℕ) : Type 0 where
  pub standing : Standing
  pub here : slice_get es place ≡ Some (id, standing)

-- it is there, or nothing is noted of it
abbrev pub IsPlaceOf : OlderNotes → ℕ → Option ℕ → Type 0
IsPlaceOf es id (Some place) = IsAtPlace es id place
IsPlaceOf es id None = standing_of es id ≡ None

-- one element stands there, and each other as before
abbrev pub Puts : ℕ → Standing → OlderNotes → OlderNotes → Type 0
Puts id at old new = (i : ℕ) → standing_of new i ≡ (if i == id then Some at else standing_of old i)
