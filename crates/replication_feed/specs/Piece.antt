-- The pieces of a journal, their texts, and what is read of a text.
use Rattle.std.specs.Prelude.{◌≡◌, ℕ, ◌+◌, ◌≤◌, ◌<◌, ◌^◌, List, [], ◌∷◌, length, All, Result, Ok, Err, ⊤}
use Rattle.osm_model.specs.declared.commands.Entry.{Entry}
use Rattle.journal_text.specs.Line.{IsEntry}
use Rattle.replication_feed.specs.Text.{text_of}
use Rattle.replication_feed.specs.declared.faults.PieceFault.{PieceFault}
use Rattle.replication_feed.specs.declared.faults.PieceFault.TheVariants.{NotPiece, Memory}
use Rattle.replication_feed.specs.declared.pieces.Piece.{Piece}

abbrev pub piece : ℕ → Entry → Piece
piece number entry = record { number = number; entry = entry }

-- pieces whose numbers count from this one on
abbrev pub pieces_from : ℕ → List Entry → List Piece
pieces_from number [] = []
pieces_from number (e ∷ es) = piece number e ∷ pieces_from (number + 1) es

-- the pieces of a list: piece n is its nth entry, and the first is piece 1
abbrev pub pieces : List Entry → List Piece
pieces journal = pieces_from 1 journal

abbrev pub entries_in : List Piece → List Entry
entries_in [] = []
entries_in (p ∷ ps) = p.entry ∷ entries_in ps

-- what the types of a piece say of it, where its number is 1 at least
pub record IsPiece (p : Piece) : Type 0 where
  pub counted : 1 ≤ p.number
  pub fits : p.number < 2 ^ 64
  pub entry : IsEntry p.entry

-- what a journal in memory is: its entries are of their types, and a number counts them
pub record IsFeed (journal : List Entry) : Type 0 where
  pub typed : All IsEntry journal
  pub counted : length journal < 2 ^ 64

-- the text is that of this piece
pub record IsPieceText (text : List ℕ) (p : Piece) : Type 0 where
  pub typed : IsPiece p
  pub is : text ≡ text_of p

-- each text is that of the piece in its place
abbrev pub AreTextsOf : List (List ℕ) → List Piece → Type 0
AreTextsOf [] [] = ⊤
AreTextsOf [] (p ∷ ps) = ⊥
AreTextsOf (text ∷ texts) [] = ⊥
AreTextsOf (text ∷ texts) (p ∷ ps) = IsPieceText text p × AreTextsOf texts ps

-- the answer is this piece, unless memory ran out
abbrev pub IsPieceRead : Result Piece PieceFault → Piece → Type 0
IsPieceRead (Ok found) p = found ≡ p
IsPieceRead (Err Memory) p = ⊤
IsPieceRead (Err NotPiece) p = ⊥
