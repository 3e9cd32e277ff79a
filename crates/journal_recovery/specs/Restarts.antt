-- Why a file is not taken up again.
use Rattle.std.specs.Prelude.{◌≡◌, ℕ, ◌<◌, List, All, ⊤}
use Rattle.journal_file.specs.Settled.{IsDamaged}
use Rattle.journal_file.specs.Whole.{text_of}
use Rattle.journal_recovery.specs.declared.faults.TextFault.{TextFault}
use Rattle.journal_recovery.specs.declared.faults.TextFault.TheVariants as text_faults
use Rattle.journal_recovery.specs.declared.restarting.RestartFault.{RestartFault}
use Rattle.journal_recovery.specs.declared.restarting.RestartFault.TheVariants.{Damaged, NoJournal, Memory, Failed}

-- what a fault of a text is to who takes up its file
abbrev pub fault_of : TextFault → RestartFault
fault_of text_faults.Memory = Memory
fault_of text_faults.NoJournal = NoJournal

-- every crash from now on leaves a file that stands for this text, by what the file tells: the moments of its device, and what a crash since
-- one of them may leave
abbrev pub StandsFor : {F : Type 0} → (F → ℕ) → (F → ℕ → List ℕ → Type 0) → F → List ℕ → Type 0
StandsFor moment left_since file text = (c : List ℕ) → left_since file (moment file) c → text_of c ≡ text

-- no crash from now on leaves a file that is damaged
abbrev pub LeavesSound : {F : Type 0} → (F → ℕ) → (F → ℕ → List ℕ → Type 0) → F → Type 0
LeavesSound moment left_since file = (c : List ℕ) → left_since file (moment file) c → IsDamaged c → ⊥

-- over how a journal is written, what the fields of its entries allow, and which entries may follow one another
module _ {E : Type 0} (text : List E → List ℕ) (is_entry : E → Type 0) (is_legal : List E → Type 0) where
  -- the file stands for the text of no legal journal
  abbrev pub HoldsNone : List ℕ → Type 0
  HoldsNone file = (entries : List E) → All is_entry entries → is_legal entries → text_of file ≡ text entries → ⊥

  -- where each fault comes, at this file and so many failed calls of its device
  abbrev pub IsCause : RestartFault → List ℕ → ℕ → Type 0
  IsCause Damaged file faults = IsDamaged file
  IsCause NoJournal file faults = HoldsNone file
  IsCause Memory file faults = ⊤
  IsCause Failed file faults = 0 < faults
