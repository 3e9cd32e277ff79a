-- What was asked of a file since it was opened, and what it stands for by that.
use Rattle.std.specs.Prelude.{◌≡◌, ◌⊎◌, ℕ, ◌+◌, ◌≤◌, List, [], ◌∷◌, ◌++◌, length, take, drop, replicate}
use mathlib.Core.Logic.{inl, inr}
use Rattle.std.proofs.Math.Nat.{not-suc-le_self}
use Rattle.journal_file.specs.Device.{Mixed, Laid, Cut}

-- a call, and whether it succeeded
pub data Call : Type 0 where
  Wrote : (at : ℕ) (bytes : List ℕ) → Call
  TriedToWrite : (at : ℕ) (bytes : List ℕ) → Call
  LaidBy : (count : ℕ) → Call
  TriedToLayBy : (count : ℕ) → Call
  CutTo : (len : ℕ) → Call
  TriedToCut : (len : ℕ) → Call
  Synced : Call
  TriedToSync : Call

-- the file as it was opened, and the calls since, the last one first
pub record History : Type 0 where
  pub first : List ℕ
  pub calls : List Call

abbrev pub opened : List ℕ → History
opened bytes = record { first = bytes; calls = [] }

abbrev pub called : History → Call → History
called h call = record { first = h.first; calls = call ∷ h.calls }

-- what a read would return
abbrev pub seen_after : List ℕ → List Call → List ℕ
seen_after first [] = first
seen_after first (Wrote at bytes ∷ calls) = take at (seen_after first calls) ++ bytes ++ drop (at + length bytes) (seen_after first calls)
seen_after first (TriedToWrite at bytes ∷ calls) = seen_after first calls
seen_after first (LaidBy count ∷ calls) = seen_after first calls ++ replicate count 0
seen_after first (TriedToLayBy count ∷ calls) = seen_after first calls
seen_after first (CutTo len ∷ calls) = take len (seen_after first calls)
seen_after first (TriedToCut len ∷ calls) = seen_after first calls
seen_after first (Synced ∷ calls) = seen_after first calls
seen_after first (TriedToSync ∷ calls) = seen_after first calls

-- how many calls failed
abbrev pub fault_of : Call → ℕ
fault_of (Wrote at bytes) = 0
fault_of (TriedToWrite at bytes) = 1
fault_of (LaidBy count) = 0
fault_of (TriedToLayBy count) = 1
fault_of (CutTo len) = 0
fault_of (TriedToCut len) = 1
fault_of Synced = 0
fault_of TriedToSync = 1

abbrev pub faults_in : List Call → ℕ
faults_in [] = 0
faults_in (call ∷ calls) = fault_of call + faults_in calls

-- what a crash may leave
abbrev pub left_after : List ℕ → List Call → List ℕ → Type 0
left_after first [] c = c ≡ first
left_after first (Wrote at bytes ∷ calls) c = (d : List ℕ) × left_after first calls d × Mixed at bytes d c
left_after first (TriedToWrite at bytes ∷ calls) c = (d : List ℕ) × left_after first calls d × Mixed at bytes d c
left_after first (LaidBy count ∷ calls) c = (d : List ℕ) × left_after first calls d × Laid count d c
left_after first (TriedToLayBy count ∷ calls) c = (d : List ℕ) × left_after first calls d × Laid count d c
left_after first (CutTo len ∷ calls) c = (d : List ℕ) × left_after first calls d × Cut len d c
left_after first (TriedToCut len ∷ calls) c = (d : List ℕ) × left_after first calls d × Cut len d c
left_after first (Synced ∷ calls) c = (faults_in calls ≡ 0 → c ≡ seen_after first calls) × left_after first calls c
left_after first (TriedToSync ∷ calls) c = left_after first calls c

-- what a crash since so many calls might have left
abbrev pub left_from : List ℕ → List Call → ℕ → List ℕ → Type 0
left_from first [] t c = left_after first [] c
left_from first (call ∷ calls) t c = left_after first (call ∷ calls) c ⊎ ((t ≤ length calls) × left_from first calls t c)

-- ---- the laws of a device

pub counts_now : (first : List ℕ) (calls : List Call) (t : ℕ) (c : List ℕ) → left_after first calls c → left_from first calls t c
counts_now first [] t c left = left
counts_now first (call ∷ calls) t c left = inl left

pub only_now : (first : List ℕ) (calls : List Call) (c : List ℕ) → left_from first calls (length calls) c → left_after first calls c
only_now first [] c left = left
only_now first (call ∷ calls) c (inl left) = left
only_now first (call ∷ calls) c (inr (le, left)) = absurd (not-suc-le_self (length calls) le)
