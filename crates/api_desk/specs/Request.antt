-- What a message asks, by the users of the server.
use Rattle.std.specs.Prelude.{ℕ, Bool, false, not, List, map, slice_get, Option, Some, None, Result, Ok, Err}
use Rattle.std.specs.Option.{option_map_or}
use Rattle.osm_base.specs.Outcome.{◌>>=◌, refuse_if}
use Rattle.osm_base.specs.declared.people.User.{User}
use Rattle.osm_change.specs.declared.refusals.Refusal.{Refusal}
use Rattle.osm_change.specs.declared.refusals.Refusal.TheVariants.{NoUser, Role, Xml}
use Rattle.osm_model.specs.Answered.{Request, refused, does, reads}
use Rattle.http_wire.specs.declared.message.Message.{Message}
use Rattle.route_table.specs.Calls.{call_of}
use Rattle.route_table.specs.declared.calls.Call.{Call}
use Rattle.user_table.specs.Users.{Users}
use Rattle.api_desk.specs.declared.feed.FeedCall.{FeedCall}
use Rattle.api_desk.specs.declared.feed.FeedCall.TheVariants as feed
use Rattle.api_desk.specs.declared.tasks.Edit.{Edit}
use Rattle.api_desk.specs.declared.tasks.Task.{Task}
use Rattle.api_desk.specs.declared.tasks.Task.TheVariants.{Read, Change, Moderate, Follow}
use Rattle.desk_parts.specs.Callers.{caller_of}
use Rattle.desk_parts.specs.Faults.{or_refused, of_route}
use Rattle.desk_parts.specs.Media.{is_xml}
use Rattle.api_desk.specs.Bodies.{command_of}
use Rattle.api_desk.specs.Tasks.{task_of}

-- ---- the caller

-- a caller who says who it is
abbrev pub known_user : Option User → Result User Refusal
known_user caller = option_map_or Ok caller (Err NoUser)

abbrev pub is_moderator : Option User → Bool
is_moderator caller = option_map_or (λ user. user.moderator) caller false

abbrev pub known_moderator : Option User → Result User Refusal
known_moderator caller = known_user caller >>= λ user. refuse_if (not user.moderator) Role >>= λ may. Ok user

-- ---- the request

-- what a message comes to by itself: a request of the map, a refusal among them, or a call of the feed
pub data Ask : Type 0 where
  of_map : Request → Ask
  of_feed : FeedCall → Ask

-- the work that a user asks for, by its body
abbrev pub work_of : Edit → List ℕ → User → Result Ask Refusal
work_of e body user = command_of e body >>= λ c. Ok (of_map (does user c))

-- a piece is for moderators, since its entry may have contents that are redacted
abbrev pub piece_asked : Option User → ℕ → Result Ask Refusal
piece_asked caller number = known_moderator caller >>= λ user. Ok (of_feed (feed.Piece number))

-- anybody may read and ask how far the feed goes, a user may change the map, a moderator may redact and get a piece
abbrev pub asked_by : Option User → List ℕ → Task → Result Ask Refusal
asked_by caller body (Read q) = Ok (of_map (reads q))
asked_by caller body (Change e) = known_user caller >>= work_of e body
asked_by caller body (Moderate e) = known_moderator caller >>= work_of e body
asked_by caller body (Follow feed.State) = Ok (of_feed feed.State)
asked_by caller body (Follow (feed.Piece number)) = piece_asked caller number

abbrev pub call_in : Message → Result Call Refusal
call_in m = or_refused of_route (call_of m.method m.target)

-- the request line is looked at first, then whether the body is XML, then the caller, and the body at last
unfoldable pub asked : Users → Message → Result Ask Refusal
asked users m = do
  call ← call_in m
  no_xml ← refuse_if (is_xml m) Xml
  caller ← caller_of users m
  asked_by caller m.body (task_of (is_moderator caller) users.large_from call)

abbrev pub told : Result Ask Refusal → Ask
told (Ok request) = request
told (Err r) = of_map (refused r)

abbrev pub request_of : Users → Message → Ask
request_of users m = told (asked users m)
