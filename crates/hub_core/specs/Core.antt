-- The core: what each event does to the journal, the published length and the sessions, and what it gives.
use Rattle.std.specs.Prelude.{ℕ, ◌+◌, ◌==◌, Bool, true, false, ◌&&◌, List, [], ◌∷◌, Option, Some, None, fold, length, take, nat_lt, nat_le, if◌then◌else◌}
use Rattle.machine_law.specs.declared.tags.Tag.{Tag}
use Rattle.machine_law.specs.declared.tags.Settled.{Settled}
use Rattle.machine_law.specs.Rules.{Rules, replay}
use Rattle.hub_core.specs.declared.events.Event.{Event}
use Rattle.hub_core.specs.declared.events.Event.TheVariants.{Plan, Commit, Publish, Ask, Freshen}
use Rattle.hub_core.specs.Journal.{calls_of, extended}

-- a command that is planned, and after how many entries
pub record Intent (C : Type 0) : Type 0 where
  pub command : C
  pub base : ℕ

-- how many entries a session has seen, and its plan
pub record SessionState (C : Type 0) : Type 0 where
  pub seen : ℕ
  pub plan : Option (Intent C)

-- the sessions that there are have the numbers below the count
pub record CoreState (C E : Type 0) : Type 0 where
  pub journal : List E
  pub published : ℕ
  pub count : ℕ
  pub sessions : ℕ → SessionState C

-- what an event gives. A commit is told with the journal that it found, and with the intent
pub data CoreReply (C E : Type 0) : Type 0 where
  Idle : CoreReply C E
  Planned : CoreReply C E
  Committed : (found : List E) (intent : Intent C) (settled : Settled E) → CoreReply C E
  Answered : (bytes : List ℕ) → CoreReply C E

abbrev pub tagged : ℕ → ℕ → Tag
tagged session call = record { session = session; call = call }

-- the sessions, of which this one has a new state
abbrev pub put : {C : Type 0} → (ℕ → SessionState C) → ℕ → SessionState C → ℕ → SessionState C
put sessions session state k = if k == session then state else sessions k

module _ {C E : Type 0} where
  -- so many sessions, which have seen nothing of an empty journal
  abbrev pub core_start : ℕ → CoreState C E
  core_start count = record { journal = []; published = 0; count = count; sessions = λ k. record { seen = 0; plan = None } }

  -- whether there is that session, and what is published has all that it saw
  abbrev pub can_read : CoreState C E → ℕ → Bool
  can_read core session = nat_lt session core.count && nat_le (core.sessions session).seen core.published

  -- the plan of that session, if there is one
  abbrev pub plan_of : CoreState C E → ℕ → Option (Intent C)
  plan_of core session = if nat_lt session core.count then (core.sessions session).plan else None

  -- the session has seen this much
  abbrev pub saw : CoreState C E → ℕ → ℕ → CoreState C E
  saw core session seen = record core { sessions = put core.sessions session (record (core.sessions session) { seen = seen }) }

  abbrev pub planned_by : Bool → CoreState C E → ℕ → C → CoreState C E
  planned_by false core session command = core
  planned_by true core session command =
      record core { sessions = put core.sessions session (record { seen = core.published; plan = Some (record { command = command; base = core.published }) }) }

  abbrev pub settled_by : CoreState C E → ℕ → Option E → CoreState C E
  settled_by core session entry =
      record core {
        journal = extended core.journal entry;
        sessions = put core.sessions session (record { seen = length (extended core.journal entry); plan = None });
      }

  abbrev pub all_published : CoreState C E → CoreState C E
  all_published core = record core { published = length core.journal }

  abbrev pub asked_by : Bool → CoreState C E → ℕ → CoreState C E
  asked_by false core session = core
  asked_by true core session = saw core session core.published

  abbrev pub freshened_by : Bool → CoreState C E → ℕ → CoreState C E
  freshened_by false core session = core
  freshened_by true core session = saw (all_published core) session (length core.journal)

module _ {S C Q P E K : Type 0} (rules : Rules S C Q P E K) where
  -- what the command comes to at the end of the journal, as the session's next call
  abbrev pub acted_by : CoreState C E → ℕ → ℕ → C → Settled E
  acted_by core session moment command = rules.act (replay rules core.journal) (tagged session (calls_of rules.tag_of session core.journal + 1)) moment command

  abbrev pub committed_by : CoreState C E → ℕ → ℕ → Option (Intent C) → CoreState C E
  committed_by core session moment None = core
  committed_by core session moment (Some intent) = settled_by core session (acted_by core session moment intent.command).entry

  abbrev pub tells_commit : CoreState C E → ℕ → ℕ → Option (Intent C) → CoreReply C E
  tells_commit core session moment None = Idle
  tells_commit core session moment (Some intent) = Committed core.journal intent (acted_by core session moment intent.command)

  -- the core after an event
  abbrev pub core_step : CoreState C E → Event C Q → CoreState C E
  core_step core (Plan session command) = planned_by (can_read core session) core session command
  core_step core (Commit session moment) = committed_by core session moment (plan_of core session)
  core_step core Publish = all_published core
  core_step core (Ask session query moment) = asked_by (can_read core session) core session
  core_step core (Freshen session) = freshened_by (nat_lt session core.count) core session

  -- the core of so many sessions, after these events
  abbrev pub core_after : ℕ → List (Event C Q) → CoreState C E
  core_after count events = fold core_step (core_start count) events

  abbrev pub tells_answer : Bool → CoreState C E → Q → ℕ → CoreReply C E
  tells_answer false core query moment = Idle
  tells_answer true core query moment = Answered (rules.reply (replay rules (take core.published core.journal)) query moment)

  -- what an event gives
  abbrev pub core_tells : CoreState C E → Event C Q → CoreReply C E
  core_tells core (Plan session command) = if can_read core session then Planned else Idle
  core_tells core (Commit session moment) = tells_commit core session moment (plan_of core session)
  core_tells core Publish = Idle
  core_tells core (Ask session query moment) = tells_answer (can_read core session) core query moment
  core_tells core (Freshen session) = Idle

  -- what these events give, one after the other
  abbrev pub all_told : CoreState C E → List (Event C Q) → List (CoreReply C E)
  all_told core [] = []
  all_told core (event ∷ events) = core_tells core event ∷ all_told (core_step core event) events
