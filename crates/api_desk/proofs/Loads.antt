-- The events of a load, request by request.
use Rattle.std.proofs.Common.{◌≡◌, ℕ, List, [], ◌∷◌, ◌++◌, Some, Result, Ok, Err, refl, sym, ap, subst, ◌∙◌, inr, append_assoc}
use Rattle.std.specs.Prelude.{MatchResult}
use Rattle.std.proofs.lemmas.List.{append-nil}
use Rattle.osm_model.specs.Answered.{refused, reads}
use Rattle.osm_model.specs.declared.queries.Query.{Query}
use Rattle.osm_change.specs.declared.refusals.Refusal.{Refusal}
use Rattle.hub_core.specs.declared.events.Event.{Event}
use Rattle.http_wire.specs.declared.message.Message.{Message}
use Rattle.user_table.specs.Users.{Users}
use Rattle.workload.specs.declared.sent.Sent.{Sent}
use Rattle.workload.specs.Request.{requests}
use Rattle.api_desk.specs.Request.{Ask, of_map, of_feed, request_of}
use Rattle.api_desk.specs.declared.feed.FeedCall.{FeedCall}
use Rattle.api_desk.specs.declared.load_faults.LoadFault.{LoadFault}
use Rattle.api_desk.specs.declared.load_faults.LoadFault.TheVariants.{Memory, NoCommand}
use Rattle.map_machine.specs.declared.plans.Asked.{Asked}
use Rattle.api_desk.specs.Loads.{IsAsked, IsNoWork, AreAsked, events_by, events_of, AreEventsOf, LacksCommand, FailsBy, GivesCommand, GivesWork, AreEvents, FailsAt}
use Rattle.http_wire.specs.Messages.{BeginsAs}
use Rattle.workload.specs.Users.{AreUsersOf}

-- Whatever commands the rest asks for, the load asks for some whose events are those so far and theirs.
abbrev pub Goes : Users → List Sent → List Sent → List (Event Asked Query) → Type 0
Goes users load rest events =
    (later : List Asked) → AreAsked users rest later
    → (all : List Asked) × AreAsked users load all × (events_of load all ≡ events ++ events_of rest later)

-- the events so far, where that rest of the load is left
pub record IsUnderway (users : Users) (load rest : List Sent) (events : List (Event Asked Query)) : Type 0 where
  pub before : List Sent
  pub load_is : load ≡ before ++ rest
  pub goes : Goes users load rest events

-- all of the load is left
pub begun : (users : Users) (load : List Sent) (events : List (Event Asked Query)) → events ≡ [] → IsUnderway users load load events
begun users load events none = record {
  before = [];
  load_is = refl;
  goes = λ later are. (later, are, ap (λ (l : List (Event Asked Query)). l ++ events_of load later) (sym none));
}

-- one request more
pub one_more : (users : Users) (load rest : List Sent) (events longer : List (Event Asked Query)) (sent : Sent) (more : List Sent) (asked : Asked)
    → rest ≡ sent ∷ more → IsAsked users sent.bytes asked → longer ≡ events ++ events_by sent.session asked
    → IsUnderway users load rest events → IsUnderway users load more longer
one_more users load rest events longer sent more asked is one added at = record {
  before = at.before ++ sent ∷ [];
  load_is = at.load_is ∙ ap (λ (l : List Sent). at.before ++ l) is ∙ sym (append_assoc at.before (sent ∷ []) more);
  goes = λ later are.
      let whole : AreAsked users rest (asked ∷ later) = rw is (one, are) in
      let found = at.goes (asked ∷ later) whole in
      let same : events_of rest (asked ∷ later) ≡ events_by sent.session asked ++ events_of more later = ap (λ (l : List Sent). events_of l (asked ∷ later)) is in
      let behind : events ++ events_of rest (asked ∷ later) ≡ longer ++ events_of more later =
      ap (λ (l : List (Event Asked Query)). events ++ l) same
      ∙ sym (append_assoc events (events_by sent.session asked) (events_of more later))
      ∙ ap (λ (l : List (Event Asked Query)). l ++ events_of more later) (sym added) in
      (found.0, found.1, found.2 ∙ behind);
}

-- nothing is left
pub all_added : (users : Users) (load rest : List Sent) (events : List (Event Asked Query)) → rest ≡ []
    → IsUnderway users load rest events → AreEventsOf users load events
all_added users load rest events is at =
    let none : AreAsked users rest [] = rw is tt in
    let found = at.goes [] none in
    let nothing : events_of rest [] ≡ [] = ap (λ (l : List Sent). events_of l []) is in
    record {
      asked = found.0;
      are = found.1;
      events_are = sym (found.2 ∙ ap (λ (l : List (Event Asked Query)). events ++ l) nothing ∙ append-nil events);
    }

-- the next request asks for no command
pub failed : (users : Users) (load rest : List Sent) (events : List (Event Asked Query)) (sent : Sent) (more : List Sent) (fault : LoadFault)
    → rest ≡ sent ∷ more → GivesCommand users sent.bytes (Err fault) → IsUnderway users load rest events → FailsBy users load fault
failed users load rest events sent more Memory is gives at = tt
failed users load rest events sent more NoCommand is gives at = record {
  before = at.before;
  sent = sent;
  behind = more;
  load_is = at.load_is ∙ ap (λ (l : List Sent). at.before ++ l) is;
  no_command = gives;
}

-- the load is that of a seed
pub of_seed : {A : Type 0} → (items : A → List (Event Asked Query)) (seed sessions uploads : ℕ) (users : Users) (load : List Sent) (made : Result A LoadFault)
    → AreUsersOf sessions users → load ≡ requests seed sessions uploads
    → MatchResult made (λ a. AreEventsOf users load (items a)) (FailsBy users load)
    → MatchResult made (λ a. AreEvents seed sessions uploads (items a)) (FailsAt seed sessions uploads)
of_seed items seed sessions uploads users load (Ok a) table is are = record {
  users = users;
  table = table;
  of_load = subst (λ (l : List Sent). AreEventsOf users l (items a)) is are;
}
of_seed items seed sessions uploads users load (Err Memory) table is fails = tt
of_seed items seed sessions uploads users load (Err NoCommand) table is fails = record {
  users = users;
  table = table;
  lacks = subst (λ (l : List Sent). LacksCommand users l) is fails;
}

pub no_work_read : (request : Ask) (query : Query) → request ≡ of_map (reads query) → IsNoWork request
no_work_read request query is = rw is tt

pub no_work_feed : (request : Ask) (call : FeedCall) → request ≡ of_feed call → IsNoWork request
no_work_feed request call is = rw is tt

pub no_work_refused : (request : Ask) (refusal : Refusal) → request ≡ of_map (refused refusal) → IsNoWork request
no_work_refused request refusal is = rw is tt

-- what the message of the bytes asks for is what the bytes ask for
pub of_message : (users : Users) (bytes : List ℕ) (message : Message) (made : Result Asked LoadFault) → BeginsAs bytes (Some message)
    → GivesWork (request_of users message) made → GivesCommand users bytes made
of_message users bytes message (Ok asked) begins work = record { message = message; rest = begins.0; begins = begins.1; does_it = work }
of_message users bytes message (Err Memory) begins work = tt
of_message users bytes message (Err NoCommand) begins work = inr (record { message = message; rest = begins.0; begins = begins.1; no_work = work })
