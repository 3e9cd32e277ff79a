-- Who uses an element: how many, and the least of them.
use Rattle.std.specs.Prelude.{◌≡◌, ℕ, ◌+◌, Bool, true, false, not, ◌&&◌, if◌then◌else◌, List, Option, Some, None}
use Rattle.osm_base.specs.Key.{key_eq, key_lt, lists_key}
use Rattle.osm_base.specs.declared.keys.Key.{Key}

-- ---- how many

-- those of a list that the element isn't itself
abbrev pub others : Key → List Key → Key → Bool
others k ks b = lists_key ks b && not (key_eq k b)

abbrev pub one_if : Bool → ℕ
one_if p = if p then 1 else 0

-- one more of each of a list, but for the element itself
abbrev pub AreRaised : Key → List Key → (Key → ℕ) → (Key → ℕ) → Type 0
AreRaised k ks was now = (b : Key) → now b ≡ was b + one_if (others k ks b)

-- one less of each
abbrev pub AreLowered : Key → List Key → (Key → ℕ) → (Key → ℕ) → Type 0
AreLowered k ks was now = (b : Key) → now b + one_if (others k ks b) ≡ was b

-- ---- the least

-- the lesser of two keys, where there are any
abbrev pub least : Option Key → Option Key → Option Key
least None y = y
least (Some a) None = Some a
least (Some a) (Some c) = if key_lt c a then Some c else Some a

-- the least key that passes a test, where one does
abbrev pub IsLeast : (Key → Bool) → Option Key → Type 0
IsLeast p None = (a : Key) → p a ≡ false
IsLeast p (Some c) = (p c ≡ true) × ((a : Key) → p a ≡ true → key_lt a c ≡ false)

-- the least key of a list that passes, where one does
abbrev pub IsLeastOf : List Key → (Key → Bool) → Option Key → Type 0
IsLeastOf ks p y = IsLeast (λ a. lists_key ks a && p a) y
