-- What the replication feed shows of a list of entries.
use Rattle.std.specs.Prelude.{ℕ, ◌-◌, List, length, slice_get, Option, Some, None}
use Rattle.std.specs.Option.{option_map_or}
use Rattle.osm_change.specs.declared.answers.Answer.{Answer}
use Rattle.osm_change.specs.declared.answers.Answer.TheVariants as answer
use Rattle.osm_change.specs.declared.refusals.Refusal.TheVariants.{NoPiece}
use Rattle.osm_model.specs.declared.commands.Entry.{Entry}
use Rattle.replication_feed.specs.Piece.{piece}
use Rattle.replication_feed.specs.Text.{text_of, state_text}
use Rattle.api_desk.specs.declared.feed.FeedCall.{FeedCall}
use Rattle.api_desk.specs.declared.feed.FeedCall.TheVariants.{State, Piece}

-- what a reply tells: an answer of the map, or a text of the feed
pub data Told : Type 0 where
  says : Answer → Told
  shows : List ℕ → Told

-- the stamp of the last entry, or 0 where there is none
abbrev pub last_stamp : List Entry → ℕ
last_stamp entries = option_map_or (λ e. e.stamp) (slice_get entries (length entries - 1)) 0

-- the entry as the piece of that number, or that the feed ends before it
abbrev pub piece_told : ℕ → ℕ → Option Entry → Told
piece_told last number (Some e) = shows (text_of (piece number e))
piece_told last number None = says (answer.Refused (NoPiece last number))

-- what a feed call is told where these are the entries. Their numbers begin at 1, as those of a path do
abbrev pub fed : List Entry → FeedCall → Told
fed entries State = shows (state_text (length entries) (last_stamp entries))
fed entries (Piece number) = piece_told (length entries) number (slice_get entries (number - 1))
