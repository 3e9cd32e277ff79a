use Rattle.std.proofs.Common.{◌≡◌, drop}
use Rattle.osm_change.specs.Build.{other_changeset}
use Rattle.osm_change.proofs.build.other_changeset.Given as goal

abbrev pub invariant-loop-place : goal.invariant-loop-place
invariant-loop-place l = other_changeset l.changeset 0 l.raw ≡ other_changeset l.changeset l.place (drop l.place l.raw)
