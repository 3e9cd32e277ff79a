use Rattle.std.proofs.Common.{drop}
use Rattle.osm_json.proofs.WrittenOps.{IsUnder}
use Rattle.osm_json.proofs.uploads.blocks.Given as goal

abbrev pub invariant-loop-op : goal.invariant-loop-op
invariant-loop-op l = IsUnder l.change l.last (drop l.op-index l.change) l.initial.out l.out
