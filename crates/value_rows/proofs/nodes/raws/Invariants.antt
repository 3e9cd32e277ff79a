use Rattle.std.specs.Prelude.{◌≡◌, All, vec_len}
use Rattle.osm_change.specs.Build.{IsRawOp}
use Rattle.value_rows.proofs.nodes.raws.Given as goal

abbrev pub invariant-loop-operation : goal.invariant-loop-operation
invariant-loop-operation l = (vec_len l.made ≡ l.operation-index) × All IsRawOp l.made.items
