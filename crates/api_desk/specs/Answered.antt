-- What a session was answered, by the map and by the feed, against a journal.
use Rattle.std.specs.Prelude.{◌≡◌, ℕ, ◌≤◌, ◌⊎◌, List, [], ◌∷◌, take, length, Option, Some, None, option_map}
use Rattle.osm_change.specs.declared.answers.Answer.{Answer}
use Rattle.osm_model.specs.Answered.{Place, IsRow as IsMapsRow}
use Rattle.osm_model.specs.Answered.{Request as MapRequest}
use Rattle.osm_model.specs.declared.commands.Entry.{Entry}
use Rattle.api_desk.specs.declared.feed.FeedCall.{FeedCall}
use Rattle.api_desk.specs.Feed.{Told, says, fed}
use Rattle.api_desk.specs.Request.{Ask, of_map, of_feed}

-- The request is one of the map, and so is its row.
pub record AnswersMap (F : List Entry) (session : ℕ) (before : Place) (request : MapRequest) (moment : ℕ) (reply : Option Told) (after : Place) : Type 0 where
  pub answer : Option Answer
  pub told : reply ≡ option_map says answer
  pub row : IsMapsRow F session before request moment answer after

-- The feed shows the journal up to a point that isn't before the last one, and nothing is done.
pub record AnswersFeed (F : List Entry) (before : Place) (call : FeedCall) (reply : Option Told) (after : Place) : Type 0 where
  pub later : before.point ≤ after.point
  pub told : reply ≡ Some (fed (take after.point F) call)
  pub calls : after.calls ≡ before.calls
  pub debts : after.debts ≡ before.debts

-- There was no memory, and nothing was done.
pub record LacksMemory (before : Place) (reply : Option Told) (after : Place) : Type 0 where
  pub told : reply ≡ None
  pub stays : after ≡ before

-- one request and its reply
abbrev pub IsRow : List Entry → ℕ → Place → Ask → ℕ → Option Told → Place → Type 0
IsRow F session before (of_map request) moment reply after = AnswersMap F session before request moment reply after
IsRow F session before (of_feed call) moment reply after = AnswersFeed F before call reply after ⊎ LacksMemory before reply after

-- a request, the moment when it was whole, and what its reply tells
pub record SessionRow : Type 0 where
  pub request : Ask
  pub moment : ℕ
  pub reply : Option Told

-- The requests were answered so, one after the other, at points of the journal that never go back.
abbrev pub IsAnswered : List Entry → ℕ → Place → List SessionRow → Place → Type 0
IsAnswered F session before [] after = (after ≡ before) × (before.point ≤ length F)
IsAnswered F session before (asked ∷ more) after =
    (mid : Place) × IsRow F session before asked.request asked.moment asked.reply mid × IsAnswered F session mid more after
