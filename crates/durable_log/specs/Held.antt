-- What a file holds of a list of entries that only grows.
use Rattle.std.specs.Prelude.{◌≡◌, ℕ, ◌≤◌, List, ◌∷◌, ◌++◌, length, take}
use Rattle.std.specs.List.{AllByRecursion}
use mathlib.Core.List.{IsPrefix}
use Rattle.journal_file.specs.Settled.{IsDamaged}
use Rattle.journal_file.specs.Whole.{text_of, AreLines, IsOneLine}

-- Each of these entries has a line that begins with `{`, and has no byte 10 or 0 in it.
abbrev pub HaveOneLine : {E : Type 0} → (E → List ℕ) → List E → Type 0
HaveOneLine line entries = AllByRecursion (λ e. (rest : List ℕ) × (line e ≡ 123 ∷ rest) × IsOneLine rest) entries

-- A front of whole lines of these entries is the lines of the first of them: each has one line.
abbrev pub HaveALineEach : {E : Type 0} → (List E → List ℕ) → List E → Type 0
HaveALineEach lines entries = (some rest : List ℕ) → AreLines some → lines entries ≡ some ++ rest → (count : ℕ) × (count ≤ length entries) × (some ≡ lines (take count entries))

-- over how a journal is written
module _ {E : Type 0} (text : List E → List ℕ) where
  -- the file stands for a beginning of these entries, of so many at least, and it isn't damaged
  pub record Holds (least : ℕ) (entries : List E) (file : List ℕ) : Type 0 where
    pub count : ℕ
    pub enough : least ≤ count
    pub within : count ≤ length entries
    pub is : text_of file ≡ text (take count entries)
    pub sound : IsDamaged file → ⊥

  -- Every crash from that moment on leaves a beginning of these entries, of so many at least.
  abbrev pub HoldsFrom : {D : Type 0} → (D → ℕ → List ℕ → Type 0) → D → ℕ → ℕ → List E → Type 0
  HoldsFrom left_since device moment least entries = (c : List ℕ) → left_since device moment c → Holds least entries c

  -- Every crash from now on leaves all of these entries, and behind them only such as a list has that begins with them.
  pub record LeavesAll {D : Type 0} (moment : D → ℕ) (left_since : D → ℕ → List ℕ → Type 0) (device : D) (entries : List E) : Type 0 where
    pub list : List E
    pub begins : IsPrefix entries list
    pub holds : HoldsFrom left_since device (moment device) (length entries) list
