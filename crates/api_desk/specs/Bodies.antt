-- The command that a call and its body ask for.
use Rattle.std.specs.Prelude.{ℕ, ℤ, pos, negsuc, Bool, true, false, List, [], ◌∷◌, Some, Result, Ok, Err}
use Rattle.osm_base.specs.Outcome.{◌>>=◌}
use Rattle.osm_base.specs.declared.keys.Kind.{Kind}
use Rattle.osm_change.specs.Build.{change_of as built}
use Rattle.osm_change.specs.declared.operations.Op.{Op}
use Rattle.osm_change.specs.declared.raw.Action.{Action}
use Rattle.osm_change.specs.declared.raw.Action.TheVariants.{Create, Modify, Delete}
use Rattle.osm_change.specs.declared.refusals.Refusal.{Refusal}
use Rattle.osm_change.specs.declared.refusals.Refusal.TheVariants as refusals
use Rattle.osm_element.specs.Limits.{check_tags}
use Rattle.osm_element.specs.declared.faults.LocalFault.{LocalFault}
use Rattle.osm_element.specs.Tags.{Tag}
use Rattle.osm_json.specs.Reading.{changeset_tags, change_of, single_in, title_in}
use Rattle.osm_model.specs.declared.commands.Command.{Command}
use Rattle.osm_model.specs.declared.commands.Command.TheVariants as command
use Rattle.desk_parts.specs.Faults.{or_refused, of_body, of_change}
use Rattle.desk_parts.specs.declared.faults.RequestFault.{RequestFault}
use Rattle.desk_parts.specs.declared.faults.RequestFault.TheVariants.{Refused}
use Rattle.api_desk.specs.declared.tasks.Edit.{Edit}
use Rattle.api_desk.specs.declared.tasks.Edit.TheVariants as edit

-- tags beyond a limit count as operation 0
abbrev pub of_tags : LocalFault → RequestFault
of_tags fault = Refused (refusals.Local fault (Some 0))

-- the tags of a changeset's body, within the limits
unfoldable pub tags_in : Bool → List ℕ → Result (List Tag) Refusal
tags_in needed body = do
  tags ← or_refused of_body (changeset_tags needed body)
  within ← or_refused of_tags (check_tags tags)
  Ok tags

-- the operations of an upload to a changeset
unfoldable pub upload_in : ℕ → List ℕ → Result (List Op) Refusal
upload_in changeset body = do
  raw ← or_refused of_body (change_of body)
  or_refused of_change (built changeset raw)

-- a single change, to the changeset that its body names
unfoldable pub change_in : Action → Kind → ℤ → List ℕ → Result Command Refusal
change_in action kind id body = do
  read ← or_refused of_body (single_in action kind id body)
  ops ← or_refused of_change (built read.0 (read.1 ∷ []))
  Ok (command.Single read.0 ops)

-- a creation's id isn't read
abbrev pub command_of : Edit → List ℕ → Result Command Refusal
command_of (edit.CreateChangeset large_from) body = tags_in false body >>= λ tags. Ok (command.CreateChangeset tags large_from)
command_of (edit.Retag id) body = tags_in true body >>= λ tags. Ok (command.Retag id tags)
command_of (edit.CloseChangeset id) body = Ok (command.CloseChangeset id)
command_of (edit.Upload id) body = upload_in id body >>= λ ops. Ok (command.Upload id ops)
command_of (edit.CreateSingle kind) body = change_in Create kind (negsuc 0) body
command_of (edit.ModifySingle key) body = change_in Modify key.kind (pos key.id) body
command_of (edit.DeleteSingle key) body = change_in (Delete false) key.kind (pos key.id) body
command_of edit.MakeRedaction body = or_refused of_body (title_in body) >>= λ title. Ok (command.MakeRedaction title)
command_of (edit.Redact key version redaction) body = Ok (command.Redact key version redaction)
command_of (edit.Unredact key version) body = Ok (command.Unredact key version)
