use Rattle.std.proofs.Common.{◌≤◌, ◌+◌, ◌-◌, length}
use Rattle.snapshot_rows.proofs.closings.end_all.Given as goal

abbrev pub invariant-numbers : goal.invariant-numbers
invariant-numbers g l = length l.closer.ends.told + (length l.numbers - l.number-index) ≤ l.closer.ends.sessions
