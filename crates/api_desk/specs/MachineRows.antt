-- Rows of the map's machine, as rows of the map.
use Rattle.std.specs.Prelude.{◌≡◌, ℕ, List, Option, Some, None, option_map}
use Rattle.osm_change.specs.declared.answers.Answer.{Answer}
use Rattle.osm_change.specs.declared.answers.Answer.TheVariants as answers
use Rattle.osm_model.specs.Answered.{Request, refused, does, reads, Place, IsRow}
use Rattle.osm_model.specs.declared.commands.Entry.{Entry}
use Rattle.osm_model.specs.declared.queries.Query.{Query}
use Rattle.session_desk.specs.Rows.{Request as Call, Place as Step}
use Rattle.session_desk.specs.Rows.Request.{Refused, Does, Reads}
use Rattle.http_link.specs.declared.desk.Reply.{Reply}
use Rattle.api_desk.specs.Answers.{reply_of}
use Rattle.api_desk.specs.Feed.{says}
use Rattle.map_machine.specs.Machine.{bytes_of}
use Rattle.map_machine.specs.declared.plans.Asked.{Asked}

-- a request of the map as one of its machine, which tells a refusal by its bytes
abbrev pub asked_of : Request → Call Asked Query
asked_of (refused r) = Refused (bytes_of (answers.Refused r))
asked_of (does user c) = Does (record { user = user; command = c })
asked_of (reads q) = Reads q

-- the same place, in the map's words
abbrev pub place_of : Step → Place
place_of step = record { point = step.point; calls = step.calls; debts = step.debts }

-- what a row tells as bytes; `None` is want of memory
abbrev pub bytes_told : Option Answer → Option (List ℕ)
bytes_told None = None
bytes_told (Some answer) = Some (bytes_of answer)

-- The request has a row of the map, and these are the bytes of its answer.
pub record HasRow (F : List Entry) (session : ℕ) (before : Place) (request : Request) (moment : ℕ) (bytes : Option (List ℕ)) (after : Place) : Type 0 where
  pub answer : Option Answer
  pub row : IsRow F session before request moment answer after
  pub told : bytes ≡ bytes_told answer

-- The reply tells these bytes, whatever answer they are of.
abbrev pub TellsBytes : Option (List ℕ) → Reply → Type 0
TellsBytes bytes reply = (answer : Option Answer) → bytes ≡ bytes_told answer → reply ≡ reply_of (option_map says answer)
