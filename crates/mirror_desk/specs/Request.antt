-- What a message asks of a mirror, by the users of the server.
use Rattle.std.specs.Prelude.{ℕ, List, codes, Option, Result, Ok, Err, if◌then◌else◌}
use Rattle.std.specs.List.{before_first}
use Rattle.std.specs.Str.{bytes_eq}
use Rattle.osm_base.specs.Outcome.{◌>>=◌, refuse_if}
use Rattle.osm_base.specs.Parts.{is_byte}
use Rattle.osm_base.specs.declared.people.User.{User}
use Rattle.osm_change.specs.declared.refusals.Refusal.{Refusal}
use Rattle.osm_change.specs.declared.refusals.Refusal.TheVariants.{WrongMethod, Xml}
use Rattle.osm_model.specs.declared.queries.Query.{Query}
use Rattle.http_wire.specs.declared.message.Message.{Message}
use Rattle.route_table.specs.Targets.{question_mark}
use Rattle.user_table.specs.Users.{Users}
use Rattle.desk_parts.specs.Media.{is_xml}
use Rattle.desk_parts.specs.Callers.{caller_of}
use Rattle.api_desk.specs.Request.{call_in, known_user, known_moderator, is_moderator}
use Rattle.api_desk.specs.Tasks.{task_of}
use Rattle.api_desk.specs.declared.feed.FeedCall.{FeedCall}
use Rattle.api_desk.specs.declared.feed.FeedCall.TheVariants as feed
use Rattle.api_desk.specs.declared.tasks.Task.{Task}
use Rattle.api_desk.specs.declared.tasks.Task.TheVariants.{Read, Change, Moderate, Follow}
use Rattle.mirror_desk.specs.declared.lines.Line.{Line}
use Rattle.mirror_desk.specs.declared.lines.Line.TheVariants.{Piece, Level, Served}

-- a refusal, a call that a mirror doesn't take, a query, the state of the feed, a piece to be taken, by the body that is to be its text, or
-- that the mirror counts as level
pub data Ask : Type 0 where
  refuses : Refusal → Ask
  forbids : Ask
  reads : Query → Ask
  states : Ask
  takes : List ℕ → Ask
  levels : Ask

-- ---- the request line

-- the path of the call that takes a piece, and that of the one which says that the mirror is level; nothing is cut off them, but the query
abbrev pub piece_path : List ℕ
piece_path = codes "/api/0.6/replication"

abbrev pub level_path : List ℕ
level_path = codes "/api/0.6/replication/level"

abbrev pub before_query : List ℕ → List ℕ
before_query target = before_first (is_byte question_mark) target

-- a piece is taken by this method alone
abbrev pub posted : List ℕ → Result Line Refusal
posted method = if bytes_eq method (codes "POST") then Ok Piece else Err WrongMethod

-- that the mirror is level is said by this method alone
abbrev pub put : List ℕ → Result Line Refusal
put method = if bytes_eq method (codes "PUT") then Ok Level else Err WrongMethod

-- two paths are the mirror's own; of every other line the call is that of the server
abbrev pub line_of : Message → Result Line Refusal
line_of m =
    if bytes_eq (before_query m.target) piece_path then posted m.method
    else (if bytes_eq (before_query m.target) level_path then put m.method
    else (call_in m >>= λ call. Ok (Served call)))

-- ---- the request

-- a call that a mirror doesn't take is forbidden to whoever says who it is
abbrev pub forbidden_to : Option User → Result Ask Refusal
forbidden_to caller = known_user caller >>= λ user. Ok forbids

-- the state of the feed is for anybody, and no piece of it for anyone
abbrev pub followed : Option User → FeedCall → Result Ask Refusal
followed caller feed.State = Ok states
followed caller (feed.Piece number) = forbidden_to caller

-- anybody may read
abbrev pub asked_by_task : Option User → Task → Result Ask Refusal
asked_by_task caller (Read q) = Ok (reads q)
asked_by_task caller (Follow call) = followed caller call
asked_by_task caller (Change e) = forbidden_to caller
asked_by_task caller (Moderate e) = forbidden_to caller

-- only a moderator may give a piece
abbrev pub piece_from : Option User → List ℕ → Result Ask Refusal
piece_from caller body = known_moderator caller >>= λ user. Ok (takes body)

-- and say that the mirror is level
abbrev pub level_from : Option User → Result Ask Refusal
level_from caller = known_moderator caller >>= λ user. Ok levels

abbrev pub asked_by : Option ℕ → Option User → List ℕ → Line → Result Ask Refusal
asked_by large_from caller body Piece = piece_from caller body
asked_by large_from caller body Level = level_from caller
asked_by large_from caller body (Served call) = asked_by_task caller (task_of (is_moderator caller) large_from call)

-- the request line is looked at first, then whether the body is XML, then the caller; whether the body is a piece comes at last
unfoldable pub asked : Users → Message → Result Ask Refusal
asked users m = do
  line ← line_of m
  no_xml ← refuse_if (is_xml m) Xml
  caller ← caller_of users m
  asked_by users.large_from caller m.body line

abbrev pub ask_in : Result Ask Refusal → Ask
ask_in (Ok ask) = ask
ask_in (Err r) = refuses r

abbrev pub request_of : Users → Message → Ask
request_of users m = ask_in (asked users m)
