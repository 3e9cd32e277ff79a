-- What a call comes to, by who may make it (wiki, API v0.6).
use Rattle.std.specs.Prelude.{ℕ, Bool, ◌&&◌, Option, Some, None, ⊤}
use Rattle.osm_base.specs.Place.{Area}
use Rattle.osm_base.specs.declared.keys.Key.{Key}
use Rattle.osm_model.specs.declared.queries.Query.{Query}
use Rattle.osm_model.specs.declared.queries.Query.TheVariants as query
use Rattle.route_table.specs.Calls.{IsPathNumber}
use Rattle.route_table.specs.declared.calls.Call.{Call}
use Rattle.route_table.specs.declared.calls.Call.TheVariants as call
use Rattle.api_desk.specs.declared.feed.FeedCall.TheVariants as feed
use Rattle.api_desk.specs.declared.tasks.Edit.{Edit}
use Rattle.api_desk.specs.declared.tasks.Edit.TheVariants as edit
use Rattle.api_desk.specs.declared.tasks.Task.{Task}
use Rattle.api_desk.specs.declared.tasks.Task.TheVariants.{Read, Change, Moderate, Follow}

-- without a redaction the mark is taken off
abbrev pub mark : Key → ℕ → Option ℕ → Task
mark key version (Some redaction) = Moderate (edit.Redact key version redaction)
mark key version None = Moderate (edit.Unredact key version)

-- a read with a stamp is one of the past
abbrev pub read_map : Area → Option ℕ → Query
read_map within (Some at) = query.MapAt within at
read_map within None = query.Map within

abbrev pub read_one : Key → Option ℕ → Query
read_one key (Some at) = query.OneAt key at
read_one key None = query.One key

abbrev pub read_full : Key → Option ℕ → Query
read_full key (Some at) = query.FullAt key at
read_full key None = query.Full key

-- what a call comes to; what is redacted is shown where it is asked for by a caller who may see it, and a changeset
-- is created with the moment from which new ones may grow large
abbrev pub task_of : Bool → Option ℕ → Call → Task
task_of sees large_from call.CreateChangeset = Change (edit.CreateChangeset large_from)
task_of sees large_from (call.Retag id) = Change (edit.Retag id)
task_of sees large_from (call.CloseChangeset id) = Change (edit.CloseChangeset id)
task_of sees large_from (call.Upload id) = Change (edit.Upload id)
task_of sees large_from (call.CreateSingle kind) = Change (edit.CreateSingle kind)
task_of sees large_from (call.ModifySingle key) = Change (edit.ModifySingle key)
task_of sees large_from (call.DeleteSingle key) = Change (edit.DeleteSingle key)
task_of sees large_from call.MakeRedaction = Moderate edit.MakeRedaction
task_of sees large_from (call.Redact key version redaction) = mark key version redaction
task_of sees large_from (call.Changeset id) = Read (query.Changeset id)
task_of sees large_from (call.Changesets user only_open only_closed within) = Read (query.Changesets user only_open only_closed within)
task_of sees large_from (call.Download id) = Read (query.Download id)
task_of sees large_from (call.Map within at) = Read (read_map within at)
task_of sees large_from (call.One key at) = Read (read_one key at)
task_of sees large_from (call.Numbered key version show) = Read (query.Numbered key version (show && sees))
task_of sees large_from (call.History key show) = Read (query.History key (show && sees))
task_of sees large_from (call.Many kind ids) = Read (query.Many kind ids)
task_of sees large_from (call.Full key at) = Read (read_full key at)
task_of sees large_from (call.WaysOf id) = Read (query.WaysOf id)
task_of sees large_from (call.RelationsOf key) = Read (query.RelationsOf key)
task_of sees large_from call.FeedState = Follow feed.State
task_of sees large_from (call.FeedPiece number) = Follow (feed.Piece number)

-- ---- for private clauses

-- the id of a single change is a number of a path
abbrev pub HasPathNumber : Edit → Type 0
HasPathNumber (edit.ModifySingle key) = IsPathNumber key.id
HasPathNumber (edit.DeleteSingle key) = IsPathNumber key.id
HasPathNumber _ = ⊤

abbrev pub HasTaskNumbers : Task → Type 0
HasTaskNumbers (Read q) = ⊤
HasTaskNumbers (Change e) = HasPathNumber e
HasTaskNumbers (Moderate e) = HasPathNumber e
HasTaskNumbers (Follow c) = ⊤
