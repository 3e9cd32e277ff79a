use Rattle.std.proofs.Common.{◌≡◌, ◌-◌, drop, length}
use Rattle.osm_change.specs.Keys.{keys_of, keys_after}
use Rattle.diff_result.specs.Counted.{HasNumbers}
use Rattle.diff_result.proofs.keys.keys_of.Given as goal

abbrev pub invariant-loop-operation : goal.invariant-loop-operation
invariant-loop-operation l = record {
  keys : keys_of l.fn.first l.operations ≡ keys_after l.keys.items l.next (drop l.operation-index l.operations);
  numbers : HasNumbers l.next (length l.operations - l.operation-index);
  each : length l.keys.items ≡ l.operation-index;
}
