-- A link on which pieces of one journal are posted.
use Rattle.std.specs.Prelude.{◌≡◌, ℕ, ◌≤◌, ◌⊎◌, ⊤, List, [], ◌∷◌, length, take, slice_range, All, Contains, Some, None, Ok}
use mathlib.Core.List.{IsPrefix}
use Rattle.osm_model.specs.declared.commands.Entry.{Entry}
use Rattle.http_link.specs.Exchange.{Exchange}
use Rattle.http_link.specs.declared.desk.Reply.{Reply}
use Rattle.user_table.specs.Users.{Users}
use Rattle.replication_feed.specs.Piece.{pieces}
use Rattle.replication_feed.specs.Text.{text_of}
use Rattle.replication_feed.specs.declared.pieces.Piece.{Piece}
use Rattle.journal_follower.specs.Calls.{Agrees}
use Rattle.journal_follower.specs.declared.answers.Taken.{Taken}
use Rattle.mirror_desk.specs.Answers.{took, reply_of}
use Rattle.mirror_desk.specs.Request.{Ask, refuses, forbids, reads, states, takes, levels, request_of}

-- ---- what is posted

-- the body is the text of a piece of this journal
pub record IsOfJournal (journal : List Entry) (body : List ℕ) : Type 0 where
  pub piece : Piece
  pub among : Contains (pieces journal) piece
  pub is : body ≡ text_of piece

-- what asks that something be taken has the text of a piece of this journal
abbrev pub AsksOf : List Entry → Ask → Type 0
AsksOf journal (refuses r) = ⊤
AsksOf journal forbids = ⊤
AsksOf journal (reads q) = ⊤
AsksOf journal states = ⊤
AsksOf journal (takes body) = IsOfJournal journal body
AsksOf journal levels = ⊤

-- whatever is posted is a piece of this journal: any of them, in any order, some again and some never
abbrev pub PostsOf : Users → List Entry → List Exchange → Type 0
PostsOf users journal exchanges = All (λ e. AsksOf journal (request_of users e.message)) exchanges

-- these pieces are posted in order and nothing else is asked, and no answer is want of memory
abbrev pub ArePosted : Users → List Exchange → List Piece → Type 0
ArePosted users [] [] = ⊤
ArePosted users [] (p ∷ ps) = ⊥
ArePosted users (e ∷ es) [] = ⊥
ArePosted users (e ∷ es) (p ∷ ps) = (request_of users e.message ≡ takes (text_of p)) × (e.answer ≡ reply_of None → ⊥) × ArePosted users es ps

-- ---- what is told

-- The reply tells of this piece that it was folded, that it was there already, or that others come before it: never that it differs or is illegal.
pub record TellsAgreeing (piece : Piece) (reply : Reply) : Type 0 where
  pub next : ℕ
  pub came : Taken
  pub agrees : Agrees (Ok came)
  pub is : reply ≡ reply_of (Some (took piece.number next came))

-- what is posted is told so, or that there is no memory
abbrev pub IsToldAgreeing : List Entry → Ask → Reply → Type 0
IsToldAgreeing journal (refuses r) reply = ⊤
IsToldAgreeing journal forbids reply = ⊤
IsToldAgreeing journal (reads q) reply = ⊤
IsToldAgreeing journal states reply = ⊤
IsToldAgreeing journal (takes body) reply = (of : IsOfJournal journal body) × (TellsAgreeing of.piece reply ⊎ (reply ≡ reply_of None))
IsToldAgreeing journal levels reply = ⊤

-- ---- what comes of it

-- The mirror has a beginning of the journal, no shorter than before, and no piece was told to be another journal's.
pub record FollowsJournal (users : Users) (journal old : List Entry) (exchanges : List Exchange) (new : List Entry) : Type 0 where
  pub prefix : IsPrefix new journal
  pub grows : IsPrefix old new
  pub agrees : All (λ e. IsToldAgreeing journal (request_of users e.message) e.answer) exchanges

-- From the first n entries the pieces n + 1 to m, posted in order, bring it to the first m.
abbrev pub ReachesPiece : Users → List Entry → List Entry → List Exchange → List Entry → Type 0
ReachesPiece users journal old exchanges new = (n m : ℕ) → n ≤ m → m ≤ length journal → old ≡ take n journal → ArePosted users exchanges (slice_range (pieces journal) n m) → new ≡ take m journal
