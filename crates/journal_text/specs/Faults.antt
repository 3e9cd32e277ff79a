-- Why a text is not that of a journal.
use Rattle.std.specs.Prelude.{◌≡◌, ℕ, ◌+◌, ◌≤◌, ◌<◌, List, [], ◌∷◌, ◌++◌, length, All, ⊤}
use Rattle.osm_model.specs.Journal.{IsLegal}
use Rattle.osm_model.specs.declared.commands.Entry.{Entry}
use Rattle.journal_text.specs.Line.{line}
use Rattle.journal_text.specs.Text.{header, text_in}
use Rattle.journal_text.specs.Version.{IsEntryIn}
use Rattle.journal_text.specs.declared.faults.JournalFault.{JournalFault}
use Rattle.journal_text.specs.declared.faults.JournalFault.TheVariants.{Long, Header, Line, Illegal, Memory}
use Rattle.journal_text.specs.declared.limits.TheConstants.{TEXT_LIMIT}
use Rattle.journal_text.specs.declared.versions.Version.{Version}

-- the rest begins with the line of an entry that fits the version, ended by byte 10
pub record BeginsWithLine (version : Version) (rest : List ℕ) : Type 0 where
  pub entry : Entry
  pub typed : IsEntryIn version entry
  pub behind : List ℕ
  pub is : rest ≡ line entry ++ 10 ∷ behind

-- the text begins with the header of this version and with the lines of these entries, which are legal and of their types, and this stands behind them
pub record Begins (version : Version) (text : List ℕ) (journal : List Entry) (rest : List ℕ) : Type 0 where
  pub within : length text ≤ TEXT_LIMIT
  pub legal : IsLegal journal
  pub typed : All (IsEntryIn version) journal
  pub is : text ≡ text_in version journal ++ rest

-- what stands behind the legal entries is not empty, and begins with the line of no entry that fits the version
pub record IsAtLine (n : ℕ) (text : List ℕ) : Type 0 where
  pub version : Version
  pub journal : List Entry
  pub rest : List ℕ
  pub begins : Begins version text journal rest
  pub number : n ≡ length journal + 2
  pub some : rest ≡ [] → ⊥
  pub none : BeginsWithLine version rest → ⊥

-- it begins with the line of an entry that fits the version and may not follow them
pub record IsAtIllegal (n : ℕ) (text : List ℕ) : Type 0 where
  pub version : Version
  pub journal : List Entry
  pub entry : Entry
  pub rest : List ℕ
  pub begins : Begins version text journal (line entry ++ 10 ∷ rest)
  pub typed : IsEntryIn version entry
  pub number : n ≡ length journal + 2
  pub illegal : IsLegal (journal ++ entry ∷ []) → ⊥

abbrev pub LacksHeader : List ℕ → Type 0
LacksHeader text = (version : Version) (rest : List ℕ) → text ≡ header version ++ rest → ⊥

-- where each fault comes
abbrev pub IsFault : JournalFault → List ℕ → Type 0
IsFault Long text = TEXT_LIMIT < length text
IsFault Header text = (length text ≤ TEXT_LIMIT) × LacksHeader text
IsFault (Line n) text = IsAtLine n text
IsFault (Illegal n) text = IsAtIllegal n text
IsFault Memory text = ⊤
