-- An input whose lines were judged so far.
use Rattle.std.specs.Prelude.{◌≡◌, ℕ, ◌+◌, ◌<◌, ◌≤◌, Bool, true, false, List, [], ◌∷◌, ◌++◌, length, None, Result, Ok, Err}
use Rattle.std.specs.List.{concat}
use Rattle.osm_base.specs.Parts.{parted}
use Rattle.osm_model.specs.declared.commands.Entry.{Entry}
use Rattle.osm_outside.specs.Told.{Told, Rose}
use Rattle.osm_outside.specs.declared.outside.Failed.{Failed}
use Rattle.http_wire.specs.Received.{Taken, HaveBytes}
use Rattle.journal_text.specs.Faults.{IsFault}
use Rattle.journal_text.specs.Lines.{Reads, IsLinesFault, IsRefused}
use Rattle.journal_text.specs.Text.{header}
use Rattle.journal_text.specs.declared.faults.JournalFault.{JournalFault}
use Rattle.journal_text.specs.declared.faults.JournalFault.TheVariants as fault
use Rattle.journal_text.specs.declared.limits.TheConstants.{TEXT_LIMIT}
use Rattle.journal_text.specs.declared.versions.Version.{Version}
use Rattle.journal_text.specs.declared.versions.Version.TheVariants.{Two}
use Rattle.journal_input.specs.Gate.{before_gate}
use Rattle.journal_input.specs.Input.{IsInput, IsStopped, IsOfNone}
use Rattle.journal_input.specs.Place.{has_gate_first}
use Rattle.journal_input.specs.declared.faults.InputFault.{InputFault}
use Rattle.journal_input.specs.declared.faults.InputFault.TheVariants as why
use Rattle.journal_input.specs.declared.lines.Lines.{Lines}

-- this text was read, each piece of it with a byte at least, and nothing else happened
pub record SoFar (before now : Told) (text : List ℕ) : Type 0 where
  pub pieces : List (List ℕ)
  pub taken : Taken before now pieces
  pub joined : text ≡ concat pieces
  pub some : HaveBytes pieces

-- as many bytes as a header has were read, or all bytes of an input that has fewer
pub record IsFront (before now : Told) (front : List ℕ) : Type 0 where
  pub within : length front ≤ length (header Two)
  pub whole : length front ≡ length (header Two) → SoFar before now front
  pub short : length front < length (header Two) → IsInput before now front

-- Reading failed or memory ran out, and nothing else happened.
abbrev pub Stops : InputFault → Told → Told → Type 0
Stops why.Failed before after = IsStopped before after × Rose before.read_faults after.read_faults
Stops (why.Text fault.Memory) before after = IsStopped before after
Stops (why.Text other) before after = ⊥

-- ---- lines

-- Of all these bytes the lines before the rest were judged: their entries are kept, whatever follows. The begun line has no byte 10, is no gate, and has the next number.
pub record Stands (version : Version) (bytes : List ℕ) (journal : List Entry) (lines : Lines) (rest : List ℕ) : Type 0 where
  pub front : List ℕ
  pub is : bytes ≡ front ++ rest
  pub reads : (more : List ℕ) → Reads version (front ++ more) journal (lines.begun.items ++ more)
  pub open_line : parted 10 lines.begun.items ≡ None
  pub no_gate : has_gate_first lines.begun.items ≡ false
  pub number : lines.number ≡ length journal + 2

-- Of all these bytes the lines before a gate were judged, and no line is begun there.
pub record Closes (version : Version) (bytes : List ℕ) (journal : List Entry) : Type 0 where
  pub front : List ℕ
  pub behind : List ℕ
  pub is : bytes ≡ front ++ 35 ∷ behind
  pub reads : Reads version front journal []

-- the lines before the gate have this fault, whatever follows
pub record LinesFail (version : Version) (why : JournalFault) (bytes : List ℕ) : Type 0 where
  pub fails : (more : List ℕ) → IsLinesFault version why (before_gate (bytes ++ more)) × IsRefused version why (before_gate (bytes ++ more))

-- the text before the gate has this fault, whatever follows, where it isn't too long
pub record Fails (why : JournalFault) (text : List ℕ) : Type 0 where
  pub fails : (more : List ℕ) → length (before_gate (text ++ more)) ≤ TEXT_LIMIT → IsFault why (before_gate (text ++ more)) × IsOfNone why (before_gate (text ++ more))

-- ---- the input

-- the header of the version was read and all lines behind it that are whole, in so many bytes
pub record Gone (version : Version) (before now : Told) (journal : List Entry) (lines : Lines) (count : ℕ) : Type 0 where
  pub bytes : List ℕ
  pub so_far : SoFar before now (header version ++ bytes)
  pub size : count ≡ length (header version ++ bytes)
  pub stands : Stands version bytes journal lines []

-- The rest of an input was read, and the answer is whether the text before its gate is too long.
pub record RestIs (is_long : Bool) (before now : Told) (text : List ℕ) : Type 0 where
  pub more : List ℕ
  pub input : IsInput before now (text ++ more)
  pub long : is_long ≡ true → TEXT_LIMIT < length (before_gate (text ++ more))
  pub within : is_long ≡ false → length (before_gate (text ++ more)) ≤ TEXT_LIMIT

abbrev pub IsRestRead : Result Bool Failed → Told → Told → List ℕ → Type 0
IsRestRead (Ok is_long) before now text = RestIs is_long before now text
IsRestRead (Err why) before now text = IsStopped before now × Rose before.read_faults now.read_faults
