-- Lines that are read one after another.
use Rattle.std.specs.Prelude.{◌≡◌, ℕ, ◌+◌, true, false, List, [], ◌∷◌, ◌++◌, length, All, ⊤}
use Rattle.osm_model.specs.Journal.{IsLegal}
use Rattle.osm_model.specs.declared.commands.Entry.{Entry}
use Rattle.journal_text.specs.Faults.{BeginsWithLine}
use Rattle.journal_text.specs.Kept.{may_follow}
use Rattle.journal_text.specs.Line.{line, IsEntry}
use Rattle.journal_text.specs.Text.{lines}
use Rattle.journal_text.specs.Version.{IsEntryIn}
use Rattle.journal_text.specs.declared.faults.JournalFault.{JournalFault}
use Rattle.journal_text.specs.declared.faults.JournalFault.TheVariants.{Long, Header, Line, Illegal, Memory}
use Rattle.journal_text.specs.declared.versions.Version.{Version}

-- ---- a line

-- the line of an entry that fits the version and may come next, and is kept
pub record Follows (version : Version) (old : List Entry) (bytes : List ℕ) (new : List Entry) : Type 0 where
  pub entry : Entry
  pub is : bytes ≡ line entry
  pub typed : IsEntryIn version entry
  pub follows : may_follow old entry ≡ true
  pub appended : new ≡ old ++ entry ∷ []

-- what is kept then has no other entry at its end
abbrev pub FollowsAlone : List Entry → List ℕ → List Entry → Type 0
FollowsAlone old bytes new = (e : Entry) → IsEntry e → bytes ≡ line e → new ≡ old ++ e ∷ []

-- the line of an entry that fits the version and may not come next, and of no other
pub record IsIllegalLine (version : Version) (old : List Entry) (bytes : List ℕ) : Type 0 where
  pub entry : Entry
  pub is : bytes ≡ line entry
  pub typed : IsEntryIn version entry
  pub only : (e : Entry) → IsEntry e → bytes ≡ line e → entry ≡ e
  pub illegal : may_follow old entry ≡ false

-- the line of no entry that fits the version
abbrev pub IsNoLine : Version → List ℕ → Type 0
IsNoLine version bytes = (e : Entry) → IsEntryIn version e → bytes ≡ line e → ⊥

-- where each fault comes at a line of that number
abbrev pub IsLineFault : Version → JournalFault → ℕ → List Entry → List ℕ → Type 0
IsLineFault version Long number old bytes = ⊥
IsLineFault version Header number old bytes = ⊥
IsLineFault version (Line n) number old bytes = (n ≡ number) × IsNoLine version bytes
IsLineFault version (Illegal n) number old bytes = (n ≡ number) × IsIllegalLine version old bytes
IsLineFault version Memory number old bytes = ⊤

-- ---- all lines

-- these legal entries, which fit the version, were read, and whatever else the text is the lines of begins with them
pub record Reads (version : Version) (text : List ℕ) (journal : List Entry) (rest : List ℕ) : Type 0 where
  pub legal : IsLegal journal
  pub typed : All (IsEntryIn version) journal
  pub is : text ≡ lines journal ++ rest
  pub only : (es : List Entry) → All (IsEntryIn version) es → text ≡ lines es → (more : List Entry) × (es ≡ journal ++ more) × (rest ≡ lines more) × All (IsEntryIn version) more

-- it stops at what is no line of the version
pub record StopsAtLine (version : Version) (n : ℕ) (text : List ℕ) : Type 0 where
  pub journal : List Entry
  pub rest : List ℕ
  pub legal : IsLegal journal
  pub typed : All (IsEntryIn version) journal
  pub is : text ≡ lines journal ++ rest
  pub number : n ≡ length journal + 2
  pub some : rest ≡ [] → ⊥
  pub none : BeginsWithLine version rest → ⊥

-- it stops at the line of an entry that may not come next
pub record StopsAtIllegal (version : Version) (n : ℕ) (text : List ℕ) : Type 0 where
  pub journal : List Entry
  pub entry : Entry
  pub rest : List ℕ
  pub legal : IsLegal journal
  pub typed : All (IsEntryIn version) journal
  pub is : text ≡ lines journal ++ (line entry ++ 10 ∷ rest)
  pub typed_too : IsEntryIn version entry
  pub number : n ≡ length journal + 2
  pub illegal : IsLegal (journal ++ entry ∷ []) → ⊥

-- where each fault comes in the lines behind a header, which are counted from 2
abbrev pub IsLinesFault : Version → JournalFault → List ℕ → Type 0
IsLinesFault version Long text = ⊥
IsLinesFault version Header text = ⊥
IsLinesFault version (Line n) text = StopsAtLine version n text
IsLinesFault version (Illegal n) text = StopsAtIllegal version n text
IsLinesFault version Memory text = ⊤

-- the text isn't the lines of any legal journal
abbrev pub AreOfNone : Version → List ℕ → Type 0
AreOfNone version text = (es : List Entry) → All (IsEntryIn version) es → IsLegal es → text ≡ lines es → ⊥

-- and so it is where there is a fault, unless memory ran out
abbrev pub IsRefused : Version → JournalFault → List ℕ → Type 0
IsRefused version Memory text = ⊤
IsRefused version Long text = AreOfNone version text
IsRefused version Header text = AreOfNone version text
IsRefused version (Line n) text = AreOfNone version text
IsRefused version (Illegal n) text = AreOfNone version text
