-- A desk for a session of a hub of the map: what it answers is told as for any machine. Beside the commands and the queries of its
-- machine it answers the calls of the feed, so what one message may be answered is told by the map's own rows.
use Rattle.std.specs.Prelude.{◌≡◌, ℕ, ◌≤◌, Some, List, take, length}
use Rattle.std.proofs.Common.{subst}
use mathlib.Core.List.{IsPrefix}
use Rattle.osm_model.specs.declared.commands.Entry.{Entry}
use Rattle.http_wire.specs.declared.message.Message.{Message}
use Rattle.http_link.specs.declared.desk.Reply.{Reply}
use Rattle.user_table.specs.Users.{Users}
use Rattle.snapshot_hub.specs.Known.{Known}
use Rattle.session_desk.specs.Answered.{AtDesk, RowOf, RowsStay, Replies, Allows}
use Rattle.api_desk.specs.declared.feed.FeedCall.{FeedCall}
use Rattle.api_desk.specs.Answered.{IsRow}
use Rattle.api_desk.specs.Answers.{Answers, reply_of}
use Rattle.api_desk.specs.Feed.{fed}
use Rattle.api_desk.specs.Longer.{row-longer}
use Rattle.api_desk.specs.MachineRows.{place_of}
use Rattle.api_desk.specs.Request.{request_of}

-- what one message may be answered
abbrev pub map_row : RowOf Entry
map_row users session F before message moment reply after = Answers users session F (place_of before) message moment reply (place_of after)

abbrev pub MapReplies : Users → Known Entry → Message → ℕ → Reply → Known Entry → Type 0
MapReplies users old message moment reply new = Replies map_row users old message moment reply new

abbrev pub AllowsMap : AtDesk Entry → Message → ℕ → Reply → AtDesk Entry → Type 0
AllowsMap old message moment reply new = Allows map_row old message moment reply new

-- what is answered against entries is so against more
pub map_rows_stay : RowsStay map_row
map_rows_stay users session F G before after message moment reply longer within row = record {
  answer = row.answer;
  row = subst (λ (H : List Entry). IsRow H session (place_of before) (request_of users message) moment row.answer (place_of after)) longer.1
      (row-longer F longer.0 session (place_of before) (place_of after) (request_of users message) moment row.answer within row.row);
  text = row.text;
}

-- ---- for private clauses

-- The session has used no call number, and owes no more: its front may be longer.
pub record GoesOn (old new : Known Entry) : Type 0 where
  pub begins : IsPrefix old.front new.front
  pub number : new.number ≡ old.number
  pub calls : new.calls ≡ old.calls
  pub debts : new.debts ≡ old.debts

-- A call of the feed was answered by the new front, up to a point that has all of the old one.
pub record ShowsFeed (old : Known Entry) (call : FeedCall) (reply : Reply) (new : Known Entry) : Type 0 where
  pub goes_on : GoesOn old new
  pub point : ℕ
  pub later : length old.front ≤ point
  pub within : point ≤ length new.front
  pub told : reply ≡ reply_of (Some (fed (take point new.front) call))
