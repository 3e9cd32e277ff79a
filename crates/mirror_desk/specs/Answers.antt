-- What a mirror answers, from the entries that it has to those that it has then.
use Rattle.std.specs.Prelude.{◌≡◌, ℕ, ◌+◌, ◌⊎◌, Bool, true, false, List, [], ◌∷◌, ◌++◌, length, codes, decimal, Option, Some, None}
use Rattle.osm_change.specs.declared.answers.Answer.TheVariants as answer
use Rattle.osm_model.specs.Ask.{ask}
use Rattle.osm_model.specs.Journal.{IsLegal, replay}
use Rattle.osm_model.specs.declared.commands.Entry.{Entry}
use Rattle.http_wire.specs.declared.message.Message.{Message}
use Rattle.http_link.specs.declared.desk.Reply.{Reply}
use Rattle.http_link.specs.Desk.{memory_body}
use Rattle.user_table.specs.Users.{Users}
use Rattle.replication_feed.specs.Piece.{IsPieceText}
use Rattle.replication_feed.specs.declared.pieces.Piece.{Piece}
use Rattle.journal_follower.specs.Taken.{taken, after}
use Rattle.journal_follower.specs.declared.answers.Taken.{Taken}
use Rattle.journal_follower.specs.declared.answers.Taken.TheVariants.{Folded, Old, Differs, Gap, Illegal}
use Rattle.api_desk.specs.Answers.{reply_of as server_reply}
use Rattle.api_desk.specs.Feed.{fed, says, Told as ServerTold}
use Rattle.api_desk.specs.declared.feed.FeedCall.TheVariants.{State}
use Rattle.mirror_desk.specs.Request.{Ask, refuses, forbids, reads, states, takes, levels, request_of}
use Rattle.mirror_desk.specs.declared.setting.MirrorSetting.{MirrorSetting}

-- ---- what is told

-- what the server tells too, that only reading is allowed, that a body is no piece's text, what came of a piece, that the mirror isn't known
-- to be level, or that it counts as level
pub data Told : Type 0 where
  as_server : ServerTold → Told
  read_only : Told
  not_piece : Told
  -- the number of the piece, and that of the piece that would come next then
  took : ℕ → ℕ → Taken → Told
  not_level : Told
  -- the number of the piece that would come next
  levelled : ℕ → Told

abbrev pub status_taken : Taken → ℕ
status_taken Folded = 200
status_taken Old = 200
status_taken Differs = 409
status_taken (Gap next) = 409
status_taken Illegal = 400

-- one object, the members in the byte order of their names
abbrev pub text_taken : ℕ → ℕ → Taken → List ℕ
text_taken number next Folded = codes "{\"next\":" ++ decimal next ++ codes ",\"taken\":\"folded\"}"
text_taken number next Old = codes "{\"next\":" ++ decimal next ++ codes ",\"taken\":\"old\"}"
text_taken number next Differs = codes "{\"error\":\"differs\",\"number\":" ++ decimal number ++ codes "}"
text_taken number next (Gap wanted) = codes "{\"error\":\"gap\",\"next\":" ++ decimal wanted ++ codes ",\"number\":" ++ decimal number ++ codes "}"
text_taken number next Illegal = codes "{\"error\":\"illegal\",\"number\":" ++ decimal number ++ codes "}"

abbrev pub reply_told : Told → Reply
reply_told (as_server told) = server_reply (Some told)
reply_told read_only = record { status = 403; body = codes "{\"error\":\"read_only\"}" }
reply_told not_piece = record { status = 400; body = codes "{\"error\":\"not_piece\"}" }
reply_told (took number next came) = record { status = status_taken came; body = text_taken number next came }
reply_told not_level = record { status = 503; body = codes "{\"error\":\"not_level\"}" }
reply_told (levelled next) = record { status = 200; body = codes "{\"level\":true,\"next\":" ++ decimal next ++ codes "}" }

-- the reply that tells it; `None` is want of memory
abbrev pub reply_of : Option Told → Reply
reply_of None = record { status = 503; body = memory_body }
reply_of (Some told) = reply_told told

-- ---- rows

-- The body is the text of a piece, and of no other one (`texts_tell_pieces`): it is taken.
pub record TakesPiece (old : List Entry) (body : List ℕ) (told : Told) (new : List Entry) : Type 0 where
  pub piece : Piece
  pub is : IsPieceText body piece
  pub told_is : told ≡ took piece.number (length new + 1) (taken old piece)
  pub comes_to : new ≡ after old piece

-- The body is the text of no piece, and nothing is done.
pub record TakesNone (old : List Entry) (body : List ℕ) (told : Told) (new : List Entry) : Type 0 where
  pub none : (piece : Piece) → IsPieceText body piece → ⊥
  pub told_is : told ≡ not_piece
  pub stays : new ≡ old

-- A read with this answer is told it. Where reads are answered only while the mirror is known to be level, it may be told that it isn't: that
-- goes by who was heard and when, of which the entries tell nothing.
abbrev pub TellsRead : Bool → ServerTold → Told → Type 0
TellsRead false answer told = told ≡ as_server answer
TellsRead true answer told = (told ≡ as_server answer) ⊎ (told ≡ not_level)

-- the same where it is known whether reads are held back
abbrev pub TellsReadAt : Bool → ServerTold → Told → Type 0
TellsReadAt false answer told = told ≡ as_server answer
TellsReadAt true answer told = told ≡ not_level

-- over what a read is told by its answer
module _ (tells_read : ServerTold → Told → Type 0) where
  -- what an ask is told; a piece that is folded is all that changes the entries
  abbrev pub Tells : List Entry → ℕ → Ask → Told → List Entry → Type 0
  Tells old moment (refuses r) told new = (told ≡ as_server (says (answer.Refused r))) × (new ≡ old)
  Tells old moment forbids told new = (told ≡ read_only) × (new ≡ old)
  Tells old moment (reads q) told new = tells_read (says (ask (replay old) moment q)) told × (new ≡ old)
  Tells old moment states told new = (told ≡ as_server (fed old State)) × (new ≡ old)
  Tells old moment (takes body) told new = TakesPiece old body told new ⊎ TakesNone old body told new
  Tells old moment levels told new = (told ≡ levelled (length old + 1)) × (new ≡ old)

  -- one ask and what it is told; there may be no memory for any, and then nothing is done
  abbrev pub IsRow : List Entry → ℕ → Ask → Option Told → List Entry → Type 0
  IsRow old moment asked None new = new ≡ old
  IsRow old moment asked (Some told) new = Tells old moment asked told new

-- one entry more at the end
pub record HasOneMore (old new : List Entry) : Type 0 where
  pub entry : Entry
  pub is : new ≡ old ++ entry ∷ []

-- One message was answered: what it asks has a row on these entries, and the reply tells what the row tells.
pub record AnswersBy (users : Users) (tells_read : ServerTold → Told → Type 0)
    (old : List Entry) (message : Message) (moment : ℕ) (reply : Reply) (new : List Entry) : Type 0 where
  pub told : Option Told
  pub row : IsRow tells_read old moment (request_of users message) told new
  pub text : reply ≡ reply_of told
  pub grown : (new ≡ old) ⊎ HasOneMore old new
  pub legal : IsLegal old → IsLegal new

-- the same by how the mirror was begun
abbrev pub MirrorAnswers : MirrorSetting → List Entry → Message → ℕ → Reply → List Entry → Type 0
MirrorAnswers setting = AnswersBy setting.users (TellsRead setting.only_level)

-- the same, where it is known whether reads are held back
abbrev pub MirrorAnswersAt : Users → Bool → List Entry → Message → ℕ → Reply → List Entry → Type 0
MirrorAnswersAt users is_held_back = AnswersBy users (TellsReadAt is_held_back)

-- ---- for private clauses

-- The ask has a row on these entries, and the reply tells what the row tells.
pub record AnswersAsk (is_held_back : Bool) (old : List Entry) (moment : ℕ) (asked : Ask) (reply : Reply) (new : List Entry) : Type 0 where
  pub told : Option Told
  pub row : IsRow (TellsReadAt is_held_back) old moment asked told new
  pub text : reply ≡ reply_of told
