-- The journal as a text: a header and a line for each entry, each ended by byte 10.
use Rattle.std.specs.Prelude.{◌≡◌, ℕ, ◌≤◌, List, [], ◌∷◌, ◌++◌, length, All, codes}
use Rattle.osm_model.specs.Journal.{IsLegal}
use Rattle.osm_model.specs.declared.commands.Entry.{Entry}
use Rattle.line_text.specs.Lines.{lines_of}
use Rattle.journal_text.specs.Line.{line}
use Rattle.journal_text.specs.Version.{IsEntryIn}
use Rattle.journal_text.specs.declared.limits.TheConstants.{TEXT_LIMIT}
use Rattle.journal_text.specs.declared.versions.Version.{Version}
use Rattle.journal_text.specs.declared.versions.Version.TheVariants.{One, Two}

-- the first line, with the byte 10 that ends it
abbrev pub header : Version → List ℕ
header One = codes "osm-journal 1" ++ 10 ∷ []
header Two = codes "osm-journal 2" ++ 10 ∷ []

-- the same in each version
abbrev pub lines : List Entry → List ℕ
lines es = lines_of line es

abbrev pub text_in : Version → List Entry → List ℕ
text_in version es = header version ++ lines es

-- the text that is written
abbrev pub text_of : List Entry → List ℕ
text_of es = text_in Two es

-- the text is that of this journal, whose entries are of their types, in a version that has a member for all that they have
pub record IsTextOf (text : List ℕ) (journal : List Entry) : Type 0 where
  pub version : Version
  pub legal : IsLegal journal
  pub typed : All (IsEntryIn version) journal
  pub is : text ≡ text_in version journal
  pub within : length text ≤ TEXT_LIMIT
