-- The moments of a changeset are bounded.
use Rattle.std.specs.Prelude.{ℕ, ◌≤◌}
use Rattle.std.specs.Option.{ForSome}
use Rattle.osm_base.specs.declared.limits.TheConstants.{MOMENT_LIMIT}
use Rattle.changeset_core.specs.declared.records.ChangesetRecord.{ChangesetRecord}

-- no later than the latest moment that is told apart
abbrev pub IsTimelyMoment : ℕ → Type 0
IsTimelyMoment t = t ≤ MOMENT_LIMIT

pub record IsTimelyRecord (r : ChangesetRecord) : Type 0 where
  pub created : IsTimelyMoment r.created
  pub activity : IsTimelyMoment r.activity
  pub ended : ForSome r.ended IsTimelyMoment
