use Rattle.std.proofs.Common.{◌≡◌, ◌≤◌, length, drop}
use Rattle.osm_model.specs.Past.{histories_by}
use Rattle.plain_reads.proofs.past.histories_by.Given as goal

abbrev pub invariant-loop-place : goal.invariant-loop-place
invariant-loop-place l = record {
  within : l.place ≤ length l.histories;
  past : l.past.items ≡ histories_by l.at (drop l.place l.histories);
}

abbrev pub decreases-loop-place : goal.decreases-loop-place
decreases-loop-place l = l.place
