use Rattle.std.proofs.Common.{◌≤◌, ◌-◌, length}
use Rattle.osm_base.proofs.Halves.{IsBetween}
use Rattle.osm_base.proofs.key_lists.is_listed.Given as goal

abbrev pub invariant-halving : goal.invariant-halving
invariant-halving l = record {
  order : l.low ≤ l.high;
  within : l.high ≤ length l.sorted;
  between : IsBetween l.sorted l.key l.low l.high;
}

abbrev pub decreases-halving : goal.decreases-halving
decreases-halving l = l.high - l.low
