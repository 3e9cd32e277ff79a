-- Texts that are read in parts.
use Rattle.std.specs.Prelude.{◌≡◌, ℕ, List, All, Result, MatchResult}
use Rattle.journal_recovery.specs.declared.faults.TextFault.{TextFault}
use Rattle.journal_recovery.specs.declared.faults.TextFault.TheVariants.{NoJournal}

-- over the lines of entries, and what the fields of an entry allow
module _ {E : Type 0} (lines : List E → List ℕ) (is_entry : E → Type 0) where
  -- The text is the lines of these entries.
  pub record AreOf (text : List ℕ) (entries : List E) : Type 0 where
    pub is : text ≡ lines entries
    pub typed : All is_entry entries

  -- it is the lines of no entries
  abbrev pub AreOfNone : List ℕ → Type 0
  AreOfNone text = (entries : List E) → AreOf text entries → ⊥

  -- the answer is the entries whose lines the text is: it has none where the text is that of no journal
  abbrev pub IsRead : {V : Type 0} → List ℕ → (V → List E) → Result V TextFault → Type 0
  IsRead text items result = MatchResult result (λ v. AreOf text (items v)) (λ fault. fault ≡ NoJournal → AreOfNone text)
