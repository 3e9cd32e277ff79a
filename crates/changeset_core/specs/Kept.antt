-- A changeset and the room that it has.
use Rattle.std.specs.Prelude.{ℕ}
use Rattle.changeset_core.specs.declared.records.ChangesetRecord.{ChangesetRecord}

-- its id, its record, and how many more changes it is promised room for
pub record Kept : Type 0 where
  pub id : ℕ
  pub kept : ChangesetRecord
  pub free : ℕ
