-- Entries that are judged.
use Rattle.std.specs.Prelude.{◌≡◌, List, ◌++◌, Result, MatchResult}
use Rattle.journal_recovery.specs.declared.faults.TextFault.{TextFault}
use Rattle.journal_recovery.specs.declared.faults.TextFault.TheVariants.{NoJournal}

-- the answer is a world that followed these entries: there is no journal where nothing legal begins with them
abbrev pub IsFollowed : {E W : Type 0} → (W → List E → Type 0) → (List E → Type 0) → List E → Result W TextFault → Type 0
IsFollowed {E = E} follows is_legal read result =
    MatchResult result (λ world. follows world read) (λ fault. fault ≡ NoJournal → (more : List E) → is_legal (read ++ more) → ⊥)

-- The journal has these entries, which are legal.
pub record HasKept {E Y : Type 0} (entries : Y → List E) (is_legal : List E → Type 0) (read : List E) (journal : Y) : Type 0 where
  pub kept : entries journal ≡ read
  pub legal : is_legal read

-- the answer is the journal of these entries: it is no journal's where they are not legal
abbrev pub IsJudged : {E Y : Type 0} → (Y → List E) → (List E → Type 0) → List E → Result Y TextFault → Type 0
IsJudged entries is_legal read result = MatchResult result (HasKept entries is_legal read) (λ fault. fault ≡ NoJournal → is_legal read → ⊥)
