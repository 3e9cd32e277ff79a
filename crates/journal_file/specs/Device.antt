-- What the calls of a device do to its file, and what a crash may do between two syncs.
use Rattle.std.specs.Prelude.{◌<◌, ◌≡◌, ◌⊎◌, ℕ, ◌+◌, ◌-◌, ◌≤◌, List, ◌++◌, length, get_or, take, drop, replicate, Result, IsErr, OnOk}
use Rattle.journal_file.specs.declared.device.DeviceFailed.{DeviceFailed}

-- new is old with these bytes from this place on
abbrev pub Holds : List ℕ → ℕ → List ℕ → List ℕ → Type 0
Holds old at bytes new = new ≡ take at old ++ bytes ++ drop (at + length bytes) old

-- after a write of these bytes that a crash cuts short: at each of its places the old byte or the written one, the same elsewhere
pub record Mixed (at : ℕ) (bytes old new : List ℕ) : Type 0 where
  pub size : length new ≡ length old
  pub each : (i : ℕ) → (get_or new i 0 ≡ get_or old i 0) ⊎ ((at ≤ i) × (i < at + length bytes) × (get_or new i 0 ≡ get_or bytes (i - at) 0))

-- after so many zeros were laid by, which a crash cuts short: some of them, behind what was there
pub record Laid (count : ℕ) (old new : List ℕ) : Type 0 where
  pub some : ℕ
  pub within : some ≤ count
  pub is : new ≡ old ++ replicate some 0

-- after a cut: some length between
pub record Cut (n : ℕ) (old new : List ℕ) : Type 0 where
  pub no_shorter : n ≤ length new
  pub front : take (length new) old ≡ new

-- each new outcome of a crash is an old outcome after a step
abbrev pub Follows : (List ℕ → List ℕ → Type 0) → (List ℕ → Type 0) → (List ℕ → Type 0) → Type 0
Follows step old new = (c : List ℕ) → new c → (d : List ℕ) × old d × step d c

-- a crash leaves this and nothing else
abbrev pub Only : List ℕ → (List ℕ → Type 0) → Type 0
Only file outcomes = (c : List ℕ) → outcomes c → c ≡ file

-- Time goes on: a crash since t might have left what it might have left before, or what it may leave now.
pub record Elapses (before now : ℕ) (past since : ℕ → List ℕ → Type 0) (may_leave : List ℕ → Type 0) : Type 0 where
  pub later : before ≤ now
  pub nothing_else : (t : ℕ) (c : List ℕ) → t ≤ before → since t c → past t c ⊎ may_leave c
  pub keeps : (t : ℕ) (c : List ℕ) → t ≤ before → past t c → since t c

-- A crash at any moment since old leaves a file that has P.
pub record LeavesOnly {D : Type 0} (moment : D → ℕ) (left_since : D → ℕ → List ℕ → Type 0) (old new : D) (P : List ℕ → Type 0) : Type 0 where
  pub later : moment old ≤ moment new
  pub each : (c : List ℕ) → left_since new (moment old) c → P c
  -- for a run that began earlier
  pub before : (t : ℕ) (c : List ℕ) → t ≤ moment old → left_since new t c → left_since old t c ⊎ P c

-- the count of faults has risen just where the call failed
pub record HasCause {T : Type 0} (before now : ℕ) (result : Result T DeviceFailed) : Type 0 where
  pub later : before ≤ now
  pub failed : IsErr result → before < now
  pub fine : OnOk result (now ≡ before)
