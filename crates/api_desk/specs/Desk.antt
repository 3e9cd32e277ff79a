-- A desk over the map's book, and what it answers.
use Rattle.std.specs.Prelude.{◌≡◌, ℕ, ◌+◌, length, List, ◌++◌}
use Rattle.osm_model.specs.Answered.{all_of}
use Rattle.http_link.specs.Exchange.{Exchange}
use Rattle.osm_model.specs.declared.commands.Entry.{Entry}
use Rattle.osm_model.specs.Journal.{IsLegal, calls_of}
use Rattle.http_wire.specs.declared.message.Message.{Message}
use Rattle.http_link.specs.declared.desk.Reply.{Reply}
use Rattle.user_table.specs.Users.{Users}
use Rattle.api_desk.specs.declared.desk.OneDesk.{OneDesk}
use Rattle.api_desk.specs.Answers.{AnswersAlone, AreAnswered}

-- the entries of the journal that the desk works on
abbrev pub entries_of : OneDesk → List Entry
entries_of desk = desk.book.now

-- the users whom it knows
abbrev pub users_of : OneDesk → Users
users_of desk = desk.users.now

abbrev pub session_of : OneDesk → ℕ
session_of desk = desk.session

-- What the desk may answer, from what it was to what it is then.
pub record Allows (old : OneDesk) (message : Message) (moment : ℕ) (reply : Reply) (new : OneDesk) : Type 0 where
  pub users : users_of new ≡ users_of old
  pub session : session_of new ≡ session_of old
  pub answers : AnswersAlone (users_of old) (session_of old) (entries_of old) (entries_of new) message moment reply
  pub legal : IsLegal (entries_of old) → IsLegal (entries_of new)

-- What a desk has done by these exchanges.
pub record HasServed (old : OneDesk) (exchanges : List Exchange) (new : OneDesk) : Type 0 where
  pub answered : AreAnswered (users_of old) (session_of old) (entries_of new) (all_of (session_of old) (entries_of old)) exchanges (all_of (session_of old) (entries_of new))
  pub legal : IsLegal (entries_of old) → IsLegal (entries_of new)
  pub more : List Entry
  pub grown : entries_of new ≡ entries_of old ++ more
  pub own : calls_of (session_of old) (entries_of new) ≡ calls_of (session_of old) (entries_of old) + length more
