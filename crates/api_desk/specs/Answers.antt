-- What requests are answered, against a list of entries.
use Rattle.std.specs.Prelude.{◌≡◌, ℕ, ◌+◌, length, List, [], ◌∷◌, ◌++◌, Option, Some, None, ⊤}
use Rattle.osm_model.specs.declared.commands.Entry.{Entry}
use Rattle.osm_model.specs.Journal.{calls_of}
use Rattle.osm_model.specs.Answered.{Place, all_of}
use Rattle.osm_json.specs.Answered.{status_of, body_of}
use Rattle.http_wire.specs.declared.message.Message.{Message}
use Rattle.http_link.specs.declared.desk.Reply.{Reply}
use Rattle.http_link.specs.Desk.{memory_body}
use Rattle.http_link.specs.Exchange.{Exchange}
use Rattle.user_table.specs.Users.{Users}
use Rattle.api_desk.specs.Answered.{SessionRow, IsRow, IsAnswered}
use Rattle.api_desk.specs.Feed.{Told, says, shows}
use Rattle.api_desk.specs.Request.{request_of}

-- the status and the body of what is told; `None` is want of memory
abbrev pub reply_of : Option Told → Reply
reply_of None = record { status = 503; body = memory_body }
reply_of (Some (says answer)) = record { status = status_of answer; body = body_of answer }
reply_of (Some (shows text)) = record { status = 200; body = text }

-- One message was answered, from a place of the session to the next: its request has a row of "answered" on these entries, and the
-- reply tells what the row tells.
pub record Answers (users : Users) (session : ℕ) (F : List Entry) (before : Place) (message : Message) (moment : ℕ) (reply : Reply) (after : Place) : Type 0 where
  pub answer : Option Told
  pub row : IsRow F session before (request_of users message) moment answer after
  pub text : reply ≡ reply_of answer

-- The same for a session that sees all of its journal before and after, and is owed nothing. Nothing of before is lost, and there
-- are no further entries but the session's own.
pub record AnswersAlone (users : Users) (session : ℕ) (old new : List Entry) (message : Message) (moment : ℕ) (reply : Reply) : Type 0 where
  pub answers : Answers users session new (all_of session old) message moment reply (all_of session new)
  pub more : List Entry
  pub grown : new ≡ old ++ more
  pub own : calls_of session new ≡ calls_of session old + length more

-- a request with its answer, and the message with its reply
pub record Tells (users : Users) (exchange : Exchange) (asked : SessionRow) : Type 0 where
  pub request : asked.request ≡ request_of users exchange.message
  pub moment : asked.moment ≡ exchange.moment
  pub reply : exchange.answer ≡ reply_of asked.reply

-- the same, one after the other
abbrev pub AllTell : Users → List Exchange → List SessionRow → Type 0
AllTell users [] [] = ⊤
AllTell users [] (asked ∷ more) = ⊥
AllTell users (exchange ∷ exchanges) [] = ⊥
AllTell users (exchange ∷ exchanges) (asked ∷ more) = Tells users exchange asked × AllTell users exchanges more

-- The messages were answered as the rules of the map and of the feed say, at points of the entries that never go back.
pub record AreAnswered (users : Users) (session : ℕ) (F : List Entry) (start : Place) (exchanges : List Exchange) (last : Place) : Type 0 where
  pub asked : List SessionRow
  pub told : AllTell users exchanges asked
  pub answered : IsAnswered F session start asked last
