-- What a message asks of the notes, by the users of the server.
use Rattle.std.specs.Prelude.{◌≡◌, ⊤, ℕ, is_none, List, Option, Result, Ok, Err}
use Rattle.osm_base.specs.Outcome.{◌>>=◌, refuse_if}
use Rattle.osm_base.specs.declared.people.User.{User}
use Rattle.osm_change.specs.declared.refusals.Refusal.{Refusal}
use Rattle.osm_change.specs.declared.refusals.Refusal.TheVariants.{NoUser, Xml}
use Rattle.http_wire.specs.declared.message.Message.{Message}
use Rattle.session_desk.specs.Rows.{Request}
use Rattle.session_desk.specs.Rows.Request.{Refused, Does, Reads}
use Rattle.notes_core.specs.declared.commands.NoteAsked.{NoteAsked}
use Rattle.notes_core.specs.declared.commands.NoteQuery.{NoteQuery}
use Rattle.user_table.specs.Users.{Users}
use Rattle.desk_parts.specs.Callers.{caller_of, owner_of}
use Rattle.desk_parts.specs.Faults.{or_refused, of_route}
use Rattle.desk_parts.specs.Media.{is_xml}
use Rattle.desk_parts.specs.Replies.{refusal_bytes}
use Rattle.desk_parts.specs.declared.faults.RequestFault.{RequestFault}
use Rattle.desk_parts.specs.declared.faults.RequestFault.TheVariants as fault
use Rattle.notes_desk.specs.Bodies.{command_of}
use Rattle.notes_desk.specs.Routes.{call_of}
use Rattle.notes_desk.specs.declared.calls.NoteCall.{NoteCall}
use Rattle.notes_desk.specs.declared.calls.NoteCall.TheVariants.{Read, Write}
use Rattle.notes_desk.specs.declared.calls.NoteEdit.{NoteEdit}
use Rattle.notes_desk.specs.declared.calls.NoteEdit.TheVariants as edit
use Rattle.notes_desk.specs.declared.requests.NoteRequest.{NoteRequest}
use Rattle.notes_desk.specs.declared.requests.NoteRequest.TheVariants as made

-- a request of the notes
abbrev pub Asks : Type 0
Asks = Request NoteAsked NoteQuery

-- anybody may open a note; only a user may do the rest
abbrev pub may : Option User → NoteEdit → Result (Unit {0}) Refusal
may caller edit.Open = Ok tt
may caller (edit.Comment id) = refuse_if (is_none caller) NoUser
may caller (edit.Close id) = refuse_if (is_none caller) NoUser
may caller (edit.Reopen id) = refuse_if (is_none caller) NoUser

-- the work that a caller asks for, by its body
abbrev pub work_of : Option User → NoteEdit → List ℕ → Result Asks Refusal
work_of caller e body = command_of e body >>= λ c. Ok (Does (record { caller = owner_of caller; command = c }))

abbrev pub asked_by : Option User → List ℕ → NoteCall → Result Asks Refusal
asked_by caller body (Read q) = Ok (Reads q)
asked_by caller body (Write e) = may caller e >>= λ allowed. work_of caller e body

-- the request line is looked at first, then whether the body is XML, then the caller, and the body at last
unfoldable pub asked : Users → Message → Result Asks Refusal
asked users m = do
  call ← or_refused of_route (call_of m.method m.target)
  no_xml ← refuse_if (is_xml m) Xml
  caller ← caller_of users m
  asked_by caller m.body call

-- a refusal is told by its bytes
abbrev pub told : Result Asks Refusal → Asks
told (Ok request) = request
told (Err r) = Refused (refusal_bytes r)

abbrev pub notes_request_of : Users → Message → Asks
notes_request_of users m = told (asked users m)

-- ---- for private clauses

-- the request that the desk's one stands for
abbrev pub shown_request : NoteRequest → Asks
shown_request (made.Change asked) = Does asked
shown_request (made.Read q) = Reads q

abbrev pub GivesRequest : Asks → Result NoteRequest RequestFault → Type 0
GivesRequest expected (Ok request) = expected ≡ shown_request request
GivesRequest expected (Err fault.Memory) = ⊤
GivesRequest expected (Err (fault.Refused r)) = expected ≡ Refused (refusal_bytes r)
