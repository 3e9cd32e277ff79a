-- What taking up the journal of a file comes to.
use Rattle.std.specs.Prelude.{◌≡◌, ℕ, List, All}
use Rattle.journal_file.specs.Whole.{text_of}
use Rattle.journal_host.specs.Told.{JournalsTold, asked_at, lent_at, taken_back}
use Rattle.journal_recovery.specs.Restarts.{StandsFor, LeavesSound, IsCause}
use Rattle.journal_recovery.specs.declared.restarting.RestartFault.{RestartFault}
use Rattle.journal_recovery.specs.declared.restarting.RestartFault.TheVariants.{Failed}
use Rattle.journal_recovery.specs.declared.taking_up.Untaken.{Untaken}
use Rattle.journal_recovery.specs.declared.taking_up.Untaken.TheVariants.{NoFile, Refused}

-- over how a journal is written, what the fields of its entries allow, and which entries may follow one another
module _ {E : Type 0} (text : List E → List ℕ) (is_entry : E → Type 0) (is_legal : List E → Type 0) where
  -- The file at that path was given, and what was read of it stands for this legal journal, and for no other of such entries.
  pub record TakesUp {F : Type 0} (path : List ℕ) (before after : JournalsTold F) (journal : List E) : Type 0 where
    pub read : List ℕ
    pub given : after ≡ lent_at before path read
    pub stands : text_of read ≡ text journal
    pub legal : is_legal journal
    pub only : (entries : List E) → All is_entry entries → text_of read ≡ text entries → journal ≡ entries

-- over what a file tells: the moments of its device, and what a crash since one of them may leave
module _ {F : Type 0} (moment : F → ℕ) (left_since : F → ℕ → List ℕ → Type 0) where
  -- The file at that path was given and came back, as this one. Every crash from then on leaves what stands for the text that was read.
  pub record ComesBack (path : List ℕ) (before after : JournalsTold F) (read : List ℕ) (file : F) : Type 0 where
    pub back : after ≡ taken_back (lent_at before path read) file
    pub leaves : StandsFor moment left_since file (text_of read)

  -- and how often a call of it has failed; and how a journal is written
  module _ (faults : F → ℕ) {E : Type 0} (text : List E → List ℕ) (is_entry : E → Type 0) (is_legal : List E → Type 0) where
    -- The file at that path was given, was taken up no further, and came back.
    pub record RefusesJournal (path : List ℕ) (before after : JournalsTold F) (fault : RestartFault) : Type 0 where
      pub read : List ℕ
      pub file : F
      pub back : ComesBack path before after read file
      pub cause : IsCause text is_entry is_legal fault read (faults file)
      -- Where no call of it failed it is as it was: whenever a crash came since it was given, it left what was read, byte for byte.
      pub left_alone : (fault ≡ Failed → ⊥) → (t : ℕ) (c : List ℕ) → left_since file t c → c ≡ read
      -- Where one failed, no crash leaves a file that the next start refuses as damaged.
      pub sound : fault ≡ Failed → LeavesSound moment left_since file

    -- no journal was taken up: no file was given, or it was refused
    abbrev pub LacksJournal : List ℕ → JournalsTold F → JournalsTold F → Untaken → Type 0
    LacksJournal path before after (NoFile why) = after ≡ asked_at before path
    LacksJournal path before after (Refused fault) = RefusesJournal path before after fault
