-- Receipts, in the order in which they were given.
use Rattle.std.specs.Prelude.{ℕ, ◌≤◌, Bool, List, [], ◌∷◌, length}
use Rattle.std.specs.List.{AllByRecursion}
use Rattle.durable_log.specs.Held.{HoldsFrom}
pub use Rattle.receipts.specs.declared.receipt.Receipt.{Receipt}

-- the entries that the last one is for, or none
abbrev pub last_count : List Receipt → ℕ
last_count [] = 0
last_count (r ∷ []) = r.count
last_count (r ∷ s ∷ rest) = last_count (s ∷ rest)

module _ {E D : Type 0} (text : List E → List ℕ) (moment : D → ℕ) (left_since : D → ℕ → List ℕ → Type 0) where
  -- From the moment of the receipt on, which has come, every crash leaves a beginning of these entries, of so many at least.
  pub record IsKept (device : D) (entries : List E) (r : Receipt) : Type 0 where
    pub within : r.count ≤ length entries
    pub come : r.moment.at ≤ moment device
    pub holds : HoldsFrom text left_since device r.moment.at r.count entries

  abbrev pub AreKept : D → List E → List Receipt → Type 0
  AreKept device entries receipts = AllByRecursion (IsKept device entries) receipts

-- a shelf: the device of its file, the entries that the file may hold, the receipts that were given, and whether a call of the device has failed
pub record Shelved (E D : Type 0) : Type 0 where
  pub device : D
  pub entries : List E
  pub receipts : List Receipt
  pub broken : Bool

abbrev pub shelved : {E D : Type 0} → D → List E → List Receipt → Bool → Shelved E D
shelved device entries receipts broken = record { device = device; entries = entries; receipts = receipts; broken = broken }
