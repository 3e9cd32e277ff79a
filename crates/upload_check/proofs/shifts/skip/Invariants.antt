use Rattle.std.proofs.Common.{◌≤◌, ◌-◌, length}
use Rattle.upload_check.proofs.shifts.skip.Given as goal

abbrev pub invariant-loop-place : goal.invariant-loop-place
invariant-loop-place l = l.fn.from ≤ l.place

abbrev pub decreases-loop-place : goal.decreases-loop-place
decreases-loop-place l = length l.sorted - l.place
