-- What a session was answered, against a journal.
use Rattle.std.specs.Prelude.{◌≡◌, ℕ, ◌+◌, ◌≤◌, ◌⊎◌, List, [], ◌∷◌, take, length, slice_get, Option, Some, None, Ok, Err}
use Rattle.osm_base.specs.Stamp.{stamp_after}
use Rattle.osm_base.specs.declared.people.User.{User}
use Rattle.osm_change.specs.declared.answers.Answer.{Answer}
use Rattle.osm_change.specs.declared.answers.Answer.TheVariants as answer
use Rattle.osm_change.specs.declared.refusals.Refusal.{Refusal}
use Rattle.osm_model.specs.declared.commands.Command.{Command}
use Rattle.osm_model.specs.declared.commands.Entry.{Entry}
use Rattle.osm_model.specs.declared.states.State.{State}
use Rattle.osm_model.specs.Act.{Effect, judge}
use Rattle.osm_model.specs.Ask.{ask}
use Rattle.osm_model.specs.declared.queries.Query.{Query}
use Rattle.osm_model.specs.Journal.{replay, calls_of}

-- what a request comes to by itself: a refusal, the command of a user, or a query
pub data Request : Type 0 where
  refused : Refusal → Request
  does : User → Command → Request
  reads : Query → Request

-- how far a session has come
pub record Place : Type 0 where
  -- how many entries of the journal it has seen
  pub point : ℕ
  -- how many call numbers it has used
  pub calls : ℕ
  -- how many of its commands were answered with want of memory, and may stand in the journal all the same
  pub debts : ℕ

-- the place of a session that has seen all of a journal, and is owed nothing
abbrev pub all_of : ℕ → List Entry → Place
all_of session entries = record { point = length entries; calls = calls_of session entries; debts = 0 }

-- the map at a point of the journal
abbrev pub map_at : List Entry → ℕ → State
map_at F point = replay (take point F)

-- the stamp of what happens at a moment, on a map
abbrev pub stamp_on : State → ℕ → ℕ
stamp_on P moment = stamp_after P.last moment

-- The request is refused by itself, and nothing is seen. `None` is the reply to want of memory.
pub record RefusesRequest (before : Place) (r : Refusal) (reply : Option Answer) (after : Place) : Type 0 where
  pub told : reply ≡ Some (answer.Refused r)
  pub stays : after ≡ before

-- The map refuses the command at a point that isn't before the last one.
pub record RefusesCommand (F : List Entry) (before : Place) (user : User) (c : Command) (moment : ℕ) (reply : Option Answer) (after : Place) : Type 0 where
  pub refusal : Refusal
  pub later : before.point ≤ after.point
  pub judged : judge (map_at F after.point) user (stamp_on (map_at F after.point) moment) c ≡ Err refusal
  pub told : reply ≡ Some (answer.Refused refusal)
  pub calls : after.calls ≡ before.calls
  pub debts : after.debts ≡ before.debts

-- The map accepts the command at a point that isn't before the last one, and there the journal has it, once and whole.
pub record AcceptsCommand (F : List Entry) (session : ℕ) (before : Place) (user : User) (c : Command) (moment : ℕ) (reply : Option Answer) (after : Place) : Type 0 where
  pub at : ℕ
  pub done : Effect
  pub later : before.point ≤ at
  pub judged : judge (map_at F at) user (stamp_on (map_at F at) moment) c ≡ Ok done
  pub told : reply ≡ Some done.answer
  pub entry :
      slice_get F at ≡ Some (record {
        session = session;
        call = before.calls + 1;
        user = user;
        stamp = stamp_on (map_at F at) moment;
        command = c;
      })
  pub comes_to : after ≡ record { point = at + 1; calls = before.calls + 1; debts = before.debts }

-- The query is answered by the map at a point that isn't before the last one, and nothing is done.
pub record AnswersQuery (F : List Entry) (before : Place) (q : Query) (moment : ℕ) (reply : Option Answer) (after : Place) : Type 0 where
  pub later : before.point ≤ after.point
  pub told : reply ≡ Some (ask (map_at F after.point) moment q)
  pub calls : after.calls ≡ before.calls
  pub debts : after.debts ≡ before.debts

-- There was no memory, and nothing was done.
pub record LacksMemory (before : Place) (reply : Option Answer) (after : Place) : Type 0 where
  pub told : reply ≡ None
  pub stays : after ≡ before

-- There was no memory to tell others of the command, which may stand in the journal.
pub record IsOwed (before : Place) (reply : Option Answer) (after : Place) : Type 0 where
  pub told : reply ≡ None
  pub point : after.point ≡ before.point
  pub calls : (after.calls ≡ before.calls) ⊎ (after.calls ≡ before.calls + 1)
  pub debts : after.debts ≡ before.debts + 1

-- one request and its reply
abbrev pub IsRow : List Entry → ℕ → Place → Request → ℕ → Option Answer → Place → Type 0
IsRow F session before (refused r) moment reply after = RefusesRequest before r reply after ⊎ LacksMemory before reply after
IsRow F session before (does user c) moment reply after =
    RefusesCommand F before user c moment reply after
    ⊎ AcceptsCommand F session before user c moment reply after
    ⊎ LacksMemory before reply after
    ⊎ IsOwed before reply after
IsRow F session before (reads q) moment reply after = AnswersQuery F before q moment reply after ⊎ LacksMemory before reply after

-- a request, the moment when it was whole, and the answer that its reply tells
pub record SessionRow : Type 0 where
  pub request : Request
  pub moment : ℕ
  pub reply : Option Answer

-- The requests were answered so, one after the other, at points of the journal that never go back.
abbrev pub IsAnswered : List Entry → ℕ → Place → List SessionRow → Place → Type 0
IsAnswered F session before [] after = (after ≡ before) × (before.point ≤ length F)
IsAnswered F session before (asked ∷ more) after =
    (mid : Place) × IsRow F session before asked.request asked.moment asked.reply mid × IsAnswered F session mid more after
