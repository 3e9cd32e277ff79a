use Rattle.std.proofs.Common.{take}
use Rattle.packed_entry.specs.Typed.{IsOp}
use Rattle.packed_entry.specs.Packed.{packed_op}
use Rattle.packed_entry.proofs.Puts.{Puts}
use Rattle.packed_entry.proofs.operations.put_each_op.Given as goal

abbrev pub invariant-loop-operation : goal.invariant-loop-operation
invariant-loop-operation l = Puts packed_op IsOp l.initial.out.items l.out.items (take l.operation-index l.operations)
