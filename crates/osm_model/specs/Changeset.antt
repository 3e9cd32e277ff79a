-- Changesets as the client is told of them, and who may work on them (wiki, "Changesets").
use Rattle.std.specs.Prelude.{ℕ, ◌==◌, if◌then◌else◌, List, length, Option, Result, Ok, Err}
use Rattle.osm_base.specs.declared.people.Owner.{Owner}
use Rattle.osm_base.specs.declared.people.User.{User}
use Rattle.osm_element.specs.Tags.{Tag}
use Rattle.osm_change.specs.declared.answers.ChangesetRow.{ChangesetRow}
use Rattle.osm_change.specs.declared.refusals.Refusal.{Refusal}
use Rattle.osm_change.specs.declared.refusals.Refusal.TheVariants as refused
use Rattle.changeset_core.specs.declared.records.ChangesetRecord.{ChangesetRecord}
use Rattle.changeset_core.specs.Changeset.{closes, closed_at, is_open, first_limit, first_record}

-- the user as the owner of a changeset
abbrev pub owner_of : User → Owner
owner_of user = record { id = user.id; name = user.name }

-- the record of a changeset that a user opens at a stamp, by the moment from which its changes may be many
abbrev pub new_changeset : User → ℕ → List Tag → Option ℕ → ChangesetRecord
new_changeset user t tags large_from = first_record (owner_of user) tags t (first_limit large_from t)

-- a changeset as the client is told at a stamp: its changes are counted
abbrev pub changeset_row : ℕ → ChangesetRecord → ℕ → ChangesetRow
changeset_row c r t = record {
  id = c;
  owner = r.owner;
  tags = r.tags;
  created = r.created;
  closes = closed_at r t;
  count = length r.did;
  touched = r.touched;
}

-- the user may work on this changeset, which is open
abbrev pub open_record : ℕ → ℕ → ChangesetRecord → Result ChangesetRecord Refusal
open_record t c r = if is_open r t then Ok r else Err (refused.Closed c (closes r))

-- the user may work on this changeset: the owner first, then whether it is open
abbrev pub own_record : User → ℕ → ℕ → ChangesetRecord → Result ChangesetRecord Refusal
own_record user t c r = if r.owner.id == user.id then open_record t c r else Err (refused.NotOwner c r.owner.id)
