-- The members of an object with their texts: as they came, in one text, and by their names.
use Rattle.std.specs.Prelude.{◌≡◌, ℕ, ◌+◌, ◌==◌, ◌||◌, List, [], ◌∷◌, length, drop, get_or, slice_range, Bool, false, if◌then◌else◌, Option, Some, None}
use Rattle.std.specs.Cmp.Lexicographic.{slice_cmp}
use Rattle.std.specs.FinMap.Entries.{put}
use Rattle.std.specs.Ordering.{is_lt, nat_cmp}
use Rattle.std.specs.Str.{IsUtf8}
use Rattle.std.specs.declared.cmp.Ordering.{Ordering}
use Rattle.osm_element.specs.Tags.{MayCut}
use Rattle.osm_json.specs.Reading.{◌>>=◌}
use Rattle.osm_json.specs.declared.entries.Place.{Place}

-- a name, and a text where it names one
abbrev pub Entry : Type 0
Entry = List ℕ × Option (List ℕ)

-- ---- in one text

abbrev pub entry_at : List ℕ → Place → Entry
entry_at text p = (slice_range text p.start p.middle, if p.is_text then Some (slice_range text p.middle p.end) else None)

-- the text may be cut at each end of the name and of its text
pub record IsPlace (text : List ℕ) (p : Place) : Type 0 where
  pub begins : IsUtf8 (drop p.start text)
  pub name : MayCut p.start p.middle text
  pub value : MayCut p.middle p.end text

-- ---- by their names

abbrev pub name_cmp : List ℕ → List ℕ → Ordering
name_cmp = slice_cmp nat_cmp

-- no name stands before that of its neighbour in front
abbrev pub AreInOrder : List Entry → Type 0
AreInOrder [] = Unit {0}
AreInOrder (e ∷ []) = Unit {0}
AreInOrder (e ∷ f ∷ es) = (is_lt (name_cmp f.0 e.0) ≡ false) × AreInOrder (f ∷ es)

abbrev pub name_at : List Entry → ℕ → List ℕ
name_at es i = (get_or es i ([], None)).0

-- whether the entry at i is the last of its name, where the names are in order
abbrev pub is_last : List Entry → ℕ → Bool
is_last es i = (i + 1 == length es) || is_lt (name_cmp (name_at es i) (name_at es (i + 1)))

-- those that were found, and more: the last of each name, in the order of the names
abbrev pub gather : List Entry → List Entry → List Entry
gather found [] = found
gather found (e ∷ es) = gather (put name_cmp e.0 e.1 found) es

-- each name must have a text
abbrev pub text_pairs : List Entry → Option (List (List ℕ × List ℕ))
text_pairs [] = Some []
text_pairs (e ∷ es) = e.1 >>= λ text. text_pairs es >>= λ pairs. Some ((e.0, text) ∷ pairs)
