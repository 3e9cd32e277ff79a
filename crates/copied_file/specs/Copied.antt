-- What was asked of a file and of its copy on another machine, and what a crash may leave of either.
use Rattle.std.specs.Prelude.{◌≡◌, ◌⊎◌, ℕ, ◌+◌, ◌<◌, ◌≤◌, ⊤, Bool, true, false, if◌then◌else◌, Option, IsSome, IsNone, List, [], ◌∷◌, length}
use mathlib.Core.Logic.{inl, inr}
use Rattle.std.proofs.Math.Nat.{not-suc-le_self}
use Rattle.journal_file.specs.History.{History, Call, Wrote, TriedToWrite, LaidBy, TriedToLayBy, CutTo, TriedToCut, Synced, TriedToSync, opened, called, seen_after, left_after, faults_in}

-- the file, its copy, and whether the copy counts
pub record Standing : Type 0 where
  pub file : History
  pub copy : History
  pub counts : Bool

-- how both stand, and how they stood behind each call before, the last one first
pub record Copied : Type 0 where
  pub now : Standing
  pub before : List Standing

-- both as they are opened, the copy with the file's bytes
abbrev pub just_opened : List ℕ → Bool → Copied
just_opened bytes counts = record { now = record { file = opened bytes; copy = opened bytes; counts = counts }; before = [] }

-- A file with these bytes was opened, with or without a copy.
abbrev pub HasJustOpened : List ℕ → Copied → Type 0
HasJustOpened bytes copied = (counts : Bool) × (copied ≡ just_opened bytes counts)

-- the file was asked, and from then on the copy doesn't count
abbrev pub without : Copied → History → Copied
without copied file = record { now = record { file = file; copy = copied.now.copy; counts = false }; before = copied.now ∷ copied.before }

-- the file was asked, and so was its copy, by this call
abbrev pub asked : Copied → History → Call → Copied
asked copied file call = record { now = record { file = file; copy = called copied.now.copy call; counts = copied.now.counts }; before = copied.now ∷ copied.before }

-- the calls, by whether they succeeded
abbrev pub written : Bool → ℕ → List ℕ → Call
written done at bytes = if done then Wrote at bytes else TriedToWrite at bytes

abbrev pub laid : Bool → ℕ → Call
laid done count = if done then LaidBy count else TriedToLayBy count

abbrev pub cut : Bool → ℕ → Call
cut done len = if done then CutTo len else TriedToCut len

abbrev pub synced : Bool → Call
synced done = if done then Synced else TriedToSync

-- what a read of the file would return, and of the copy
abbrev pub seen_at : Standing → List ℕ
seen_at s = seen_after s.file.first s.file.calls

abbrev pub seen_of_copy : Standing → List ℕ
seen_of_copy s = seen_after s.copy.first s.copy.calls

-- how many calls failed, of either
abbrev pub faults_at : Standing → ℕ
faults_at s = faults_in s.file.calls + faults_in s.copy.calls

-- what a crash may leave: of the file, and of the copy where it counts
abbrev pub left_at : Standing → List ℕ → Type 0
left_at s c = left_after s.file.first s.file.calls c ⊎ ((s.counts ≡ true) × left_after s.copy.first s.copy.calls c)

-- what a crash since so many calls might have left
abbrev pub left_from : Standing → List Standing → ℕ → List ℕ → Type 0
left_from now [] t c = left_at now c
left_from now (s ∷ before) t c = left_at now c ⊎ ((t ≤ length before) × left_from s before t c)

-- A copy that counts goes on to count until a call has failed.
abbrev pub CountsOn : Standing → List Standing → Type 0
CountsOn now [] = ⊤
CountsOn now (s ∷ before) = (s.counts ≡ true → faults_at s ≡ 0 → now.counts ≡ true) × CountsOn s before

-- As long as there is a copy it counts, and a read of it would return what one of the file would. One that counts is gone only behind a failed call.
pub record Agrees {L : Type 0} (file : History) (copy : Option L) (copied : Copied) : Type 0 where
  pub is : copied.now.file ≡ file
  pub counts : IsSome copy → copied.now.counts ≡ true
  pub alike : IsSome copy → seen_of_copy copied.now ≡ seen_at copied.now
  pub gone : IsNone copy → copied.now.counts ≡ true → 0 < faults_at copied.now
  pub counts_on : CountsOn copied.now copied.before

-- ---- the laws of a device

pub counts_now : (now : Standing) (before : List Standing) (t : ℕ) (c : List ℕ) → left_at now c → left_from now before t c
counts_now now [] t c left = left
counts_now now (s ∷ before) t c left = inl left

pub only_now : (now : Standing) (before : List Standing) (c : List ℕ) → left_from now before (length before) c → left_at now c
only_now now [] c left = left
only_now now (s ∷ before) c (inl left) = left
only_now now (s ∷ before) c (inr (le, left)) = absurd (not-suc-le_self (length before) le)
