use Rattle.std.proofs.Common.{◌≡◌, take}
use Rattle.osm_base.specs.Key.{lists_key}
use Rattle.osm_base.specs.declared.keys.Key.{Key}
use Rattle.upload_check.proofs.key_runs.in_order.Given as goal

abbrev pub invariant-loop-key : goal.invariant-loop-key
invariant-loop-key l = (k : Key) → lists_key l.runs k ≡ lists_key (take l.key-index l.keys) k
