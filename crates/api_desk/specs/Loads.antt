-- The events that a generated load comes to.
use Rattle.std.specs.Prelude.{◌≡◌, ℕ, ◌⊎◌, ⊤, List, [], ◌∷◌, ◌++◌, Result, Ok, Err}
use Rattle.osm_model.specs.Answered.{refused, does, reads}
use Rattle.osm_model.specs.declared.queries.Query.{Query}
use Rattle.hub_core.specs.declared.events.Event.{Event}
use Rattle.hub_core.specs.declared.events.Event.TheVariants.{Plan, Commit, Publish}
use Rattle.http_wire.specs.declared.message.Message.{Message}
use Rattle.http_wire.specs.Message.{BeginsWith}
use Rattle.user_table.specs.Users.{Users}
use Rattle.http_wire.specs.Messages.{HasNoMessage}
use Rattle.workload.specs.declared.sent.Sent.{Sent}
use Rattle.workload.specs.Request.{requests}
use Rattle.workload.specs.Users.{AreUsersOf}
use Rattle.api_desk.specs.Request.{Ask, of_map, of_feed, request_of}
use Rattle.api_desk.specs.declared.load_faults.LoadFault.{LoadFault}
use Rattle.api_desk.specs.declared.load_faults.LoadFault.TheVariants.{Memory, NoCommand}
use Rattle.map_machine.specs.declared.plans.Asked.{Asked}

-- ---- the command of one request

-- The bytes begin with a message that asks for the command, by these users.
pub record IsAsked (users : Users) (bytes : List ℕ) (asked : Asked) : Type 0 where
  pub message : Message
  pub rest : List ℕ
  pub begins : BeginsWith bytes message rest
  pub does_it : request_of users message ≡ of_map (does asked.user asked.command)

-- It is a refusal, a query or a call of the feed.
abbrev pub IsNoWork : Ask → Type 0
IsNoWork (of_map (refused r)) = ⊤
IsNoWork (of_map (does user c)) = ⊥
IsNoWork (of_map (reads q)) = ⊤
IsNoWork (of_feed call) = ⊤

-- The bytes begin with a message that asks for no command.
pub record AsksNoWork (users : Users) (bytes : List ℕ) : Type 0 where
  pub message : Message
  pub rest : List ℕ
  pub begins : BeginsWith bytes message rest
  pub no_work : IsNoWork (request_of users message)

-- The bytes ask for no command.
abbrev pub HasNoCommand : Users → List ℕ → Type 0
HasNoCommand users bytes = HasNoMessage bytes ⊎ AsksNoWork users bytes

-- ---- the commands of a load

-- Each request asks for its command.
abbrev pub AreAsked : Users → List Sent → List Asked → Type 0
AreAsked users [] [] = ⊤
AreAsked users (sent ∷ more) (asked ∷ rest) = IsAsked users sent.bytes asked × AreAsked users more rest
AreAsked users [] (asked ∷ rest) = ⊥
AreAsked users (sent ∷ more) [] = ⊥

-- the moment of every commit: 2023-11-14T22:13:20Z
abbrev pub moment_of_events : ℕ
moment_of_events = 1700000000

-- a session plans a command and commits it, and the journal is published
abbrev pub events_by : ℕ → Asked → List (Event Asked Query)
events_by session asked = Plan session asked ∷ Commit session moment_of_events ∷ Publish ∷ []

-- the events of requests with these commands, in order
abbrev pub events_of : List Sent → List Asked → List (Event Asked Query)
events_of [] asked = []
events_of (sent ∷ more) [] = []
events_of (sent ∷ more) (asked ∷ rest) = events_by sent.session asked ++ events_of more rest

-- The events are those of the requests, each with the command that it asks for.
pub record AreEventsOf (users : Users) (load : List Sent) (events : List (Event Asked Query)) : Type 0 where
  pub asked : List Asked
  pub are : AreAsked users load asked
  pub events_are : events ≡ events_of load asked

-- Some request asks for no command.
pub record LacksCommand (users : Users) (load : List Sent) : Type 0 where
  pub before : List Sent
  pub sent : Sent
  pub behind : List Sent
  pub load_is : load ≡ before ++ sent ∷ behind
  pub no_command : HasNoCommand users sent.bytes

-- why there are no events of these requests. Memory may run out at any time
abbrev pub FailsBy : Users → List Sent → LoadFault → Type 0
FailsBy users load Memory = ⊤
FailsBy users load NoCommand = LacksCommand users load

-- ---- for private clauses

-- what was read of the bytes
abbrev pub GivesCommand : Users → List ℕ → Result Asked LoadFault → Type 0
GivesCommand users bytes (Ok asked) = IsAsked users bytes asked
GivesCommand users bytes (Err Memory) = ⊤
GivesCommand users bytes (Err NoCommand) = HasNoCommand users bytes

-- the command of a request
abbrev pub GivesWork : Ask → Result Asked LoadFault → Type 0
GivesWork request (Ok asked) = request ≡ of_map (does asked.user asked.command)
GivesWork request (Err Memory) = ⊤
GivesWork request (Err NoCommand) = IsNoWork request

-- ---- the whole load

-- The events are those of the load of a seed, by the users of the load.
pub record AreEvents (seed sessions uploads : ℕ) (events : List (Event Asked Query)) : Type 0 where
  pub users : Users
  pub table : AreUsersOf sessions users
  pub of_load : AreEventsOf users (requests seed sessions uploads) events

-- The load of a seed has a request that asks for no command.
pub record HasNoEvents (seed sessions uploads : ℕ) : Type 0 where
  pub users : Users
  pub table : AreUsersOf sessions users
  pub lacks : LacksCommand users (requests seed sessions uploads)

-- why there are no events of the load of a seed. Memory may run out at any time
abbrev pub FailsAt : ℕ → ℕ → ℕ → LoadFault → Type 0
FailsAt seed sessions uploads Memory = ⊤
FailsAt seed sessions uploads NoCommand = HasNoEvents seed sessions uploads
