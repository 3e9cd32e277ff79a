-- Tags as lists of pairs.
use Rattle.std.specs.Prelude.{ℕ, zero, suc, ◌+◌, ◌≡◌, ◌≤◌, List, [], ◌∷◌, length, map, drop, slice_range}
use Rattle.std.specs.Ordering.{nat_cmp}
use Rattle.std.specs.Cmp.Lexicographic.{slice_cmp}
use Rattle.std.specs.List.Sorted.{IsStrictlySortedBy}
use Rattle.std.specs.Str.{IsUtf8}
use Rattle.osm_element.specs.declared.labels.Ends.{Ends}

-- a key and a value, as their bytes
abbrev pub Tag : Type 0
Tag = List ℕ × List ℕ

-- the keys rise strictly, in the order of their bytes
abbrev pub KeysRise : List Tag → Type 0
KeysRise pairs = IsStrictlySortedBy (slice_cmp nat_cmp) (map (λ p. p.0) pairs)

-- how many bytes the keys and the values have
abbrev pub byte_count : List Tag → ℕ
byte_count [] = 0
byte_count (tag ∷ tags) = length tag.0 + length tag.1 + byte_count tags

-- ---- tags in one text

-- the pairs that the text is cut into, from there on
abbrev pub cut : ℕ → List Ends → List ℕ → List Tag
cut from [] text = []
cut from (e ∷ es) text = (slice_range text from e.key, slice_range text e.key e.value) ∷ cut e.value es text

-- where the pair at i begins
abbrev pub start_at : ℕ → List Ends → ℕ → ℕ
start_at from [] i = from
start_at from (e ∷ es) zero = from
start_at from (e ∷ es) (suc i) = start_at e.value es i

-- the text may be cut at both places
pub record MayCut (from to : ℕ) (text : List ℕ) : Type 0 where
  pub rises : from ≤ to
  pub within : to ≤ length text
  pub rest : IsUtf8 (drop to text)

-- these are all that the text is cut into
abbrev pub AreEnds : ℕ → List Ends → List ℕ → Type 0
AreEnds from [] text = from ≡ length text
AreEnds from (e ∷ es) text = MayCut from e.key text × MayCut e.key e.value text × AreEnds e.value es text
