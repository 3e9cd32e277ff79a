-- Texts that are taken in part by part.
use Rattle.std.specs.Prelude.{◌≡◌, ℕ, ◌⊎◌, List, ◌++◌, Result, MatchResult}
use Rattle.journal_recovery.specs.Parts.{AreOf, AreOfNone}
use Rattle.journal_recovery.specs.declared.faults.TextFault.{TextFault}
use Rattle.journal_recovery.specs.declared.faults.TextFault.TheVariants.{NoJournal}
use Rattle.journal_recovery.specs.declared.intake.Followed.{Followed}
use Rattle.journal_recovery.specs.declared.intake.Intake.{Intake}

-- over how entries are kept
module _ {E W K : Type 0} (keeps : K → List E) where
  -- all entries that were read: those that are kept, and those of the part behind them
  abbrev pub entries_in : Intake E W K → List E
  entries_in intake = keeps intake.followed.kept ++ intake.part.items

  -- These entries are kept, and both worlds followed them.
  pub record HasFollowed (follows : W → List E → Type 0) (followed : Followed W K) (entries : List E) : Type 0 where
    pub kept : keeps followed.kept ≡ entries
    pub first : follows followed.worlds.first entries
    pub second : follows followed.worlds.second entries

-- over the lines of entries, what the fields of an entry allow, and which entries may follow one another
module _ {E : Type 0} (lines : List E → List ℕ) (is_entry : E → Type 0) (is_legal : List E → Type 0) where
  -- Behind these entries, all of which were followed, stand those whose lines the part is.
  pub record HasTaken {W K : Type 0} (keeps : K → List E) (follows : W → List E → Type 0) (before : List E) (part : List ℕ) (after : Intake E W K) : Type 0 where
    pub followed : HasFollowed keeps follows after.followed before
    pub read : AreOf lines is_entry part after.part.items

  -- the answer has the entries of the part too: there is none where nothing legal begins with the entries before, or the part is the lines of none
  abbrev pub IsNext : {W K : Type 0} → (K → List E) → (W → List E → Type 0) → List E → List ℕ → Result (Intake E W K) TextFault → Type 0
  IsNext keeps follows before part result = MatchResult result (HasTaken keeps follows before part)
      (λ fault. fault ≡ NoJournal → ((more : List E) → is_legal (before ++ more) → ⊥) ⊎ AreOfNone lines is_entry part)

  -- The entries of the journal are those whose lines the text is, and they are legal.
  pub record HasRead {Y : Type 0} (entries : Y → List E) (text : List ℕ) (journal : Y) : Type 0 where
    pub read : AreOf lines is_entry text (entries journal)
    pub legal : is_legal (entries journal)

  -- it is the lines of no legal entries
  abbrev pub AreOfNoLegal : List ℕ → Type 0
  AreOfNoLegal text = (es : List E) → AreOf lines is_entry text es → is_legal es → ⊥

  -- the answer is the journal whose text it is: there is none where it is that of no legal entries
  abbrev pub IsTakenIn : {Y : Type 0} → (Y → List E) → List ℕ → Result Y TextFault → Type 0
  IsTakenIn entries text result = MatchResult result (HasRead entries text) (λ fault. fault ≡ NoJournal → AreOfNoLegal text)
