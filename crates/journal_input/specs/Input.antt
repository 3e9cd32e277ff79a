-- What reading a journal's text from a source comes to.
use Rattle.std.specs.Prelude.{◌≡◌, ℕ, ◌+◌, ◌⊎◌, ⊤, List, length, Result, Ok, Err}
use Rattle.std.specs.List.{concat}
use Rattle.osm_model.specs.declared.commands.Entry.{Entry}
use Rattle.osm_outside.specs.Told.{Told, Rose}
use Rattle.http_wire.specs.Received.{Taken, HaveBytes, GaveAll}
use Rattle.journal_text.specs.Faults.{IsFault}
use Rattle.journal_text.specs.Text.{IsTextOf}
use Rattle.journal_text.specs.declared.faults.JournalFault.{JournalFault}
use Rattle.journal_text.specs.declared.faults.JournalFault.TheVariants as fault
use Rattle.journal_text.specs.declared.limits.TheConstants.{TEXT_LIMIT}
use Rattle.journal_input.specs.Gate.{before_gate}
use Rattle.journal_input.specs.declared.faults.InputFault.{InputFault}
use Rattle.journal_input.specs.declared.faults.InputFault.TheVariants.{Failed, Text}

-- ---- the input

-- The input was read, and nothing else happened: to its end, or to one byte past the most that a text may have.
pub record IsInput (before after : Told) (text : List ℕ) : Type 0 where
  pub pieces : List (List ℕ)
  pub taken : Taken before after pieces
  pub joined : text ≡ concat pieces
  pub ends : GaveAll pieces after.left ⊎ (HaveBytes pieces × (length text ≡ TEXT_LIMIT + 1))

-- Reading stopped, and nothing else happened.
pub record IsStopped (before after : Told) : Type 0 where
  pub pieces : List (List ℕ)
  pub taken : Taken before after pieces

-- ---- what it comes to

-- What stands before the gate of the input is the text of this journal, and of no other.
pub record IsOfJournal (before after : Told) (journal : List Entry) : Type 0 where
  pub text : List ℕ
  pub input : IsInput before after text
  pub is : IsTextOf (before_gate text) journal
  pub only : (es : List Entry) → IsTextOf (before_gate text) es → journal ≡ es

-- The text is that of no journal, unless memory ran out.
abbrev pub IsOfNone : JournalFault → List ℕ → Type 0
IsOfNone fault.Memory text = ⊤
IsOfNone other text = (es : List Entry) → IsTextOf text es → ⊥

-- What stands before the gate of the input is a text with this fault.
pub record HasFault (before after : Told) (why : JournalFault) : Type 0 where
  pub text : List ℕ
  pub input : IsInput before after text
  pub fault : IsFault why (before_gate text)
  pub none : IsOfNone why (before_gate text)

-- where each fault comes
abbrev pub IsInputFault : InputFault → Told → Told → Type 0
IsInputFault Failed before after = IsStopped before after × Rose before.read_faults after.read_faults
IsInputFault (Text fault.Memory) before after = IsStopped before after
IsInputFault (Text other) before after = HasFault before after other

-- The entries of the input are kept, or there is a fault.
abbrev pub IsRead : {X : Type 0} → Told → Told → List Entry → Result X InputFault → Type 0
IsRead before after journal (Ok done) = IsOfJournal before after journal
IsRead before after journal (Err why) = IsInputFault why before after
