use Rattle.std.proofs.Common.{◌≡◌, ◌++◌, map, take, drop}
use Rattle.osm_json.specs.Walked.{only_unused}
use Rattle.osm_json.proofs.blocks.mark_unused.Given as goal

abbrev pub invariant-loop-op : goal.invariant-loop-op
invariant-loop-op l = l.ops ≡ map only_unused (take l.op-index l.initial.ops) ++ drop l.op-index l.initial.ops
