use Rattle.std.proofs.Common.{◌-◌, ◌≤◌, length}
use Rattle.upload_check.proofs.Older.{IsBetween}
use Rattle.upload_check.proofs.older_standings.place_of.Given as goal

abbrev pub invariant-halving : goal.invariant-halving
invariant-halving l = record {
  order : l.low ≤ l.high;
  within : l.high ≤ length l.rising;
  between : IsBetween l.rising l.id l.low l.high;
}

abbrev pub decreases-halving : goal.decreases-halving
decreases-halving l = l.high - l.low
