use Rattle.packed_entry.specs.Typed.{IsOp}
use Rattle.packed_entry.specs.Packed.{packed_op}
use Rattle.packed_entry.proofs.Puts.{one_more, all_of}
use Rattle.packed_entry.proofs.operations.put_each_op.Goals as goal

pub loop-operation-preserved : goal.loop-operation-preserved
loop-operation-preserved c =
    one_more packed_op IsOp _ _ _ c.args.operations.now c.loop-operation.operation-index c.operation-item.result c.operation-item.result c.loop-operation-test.true c.operation-item.is c.in_ok-put_op.ensures.bytes c.in_ok-put_op.ensures.typed c.loop-operation.invariant

pub returns-clause-bytes : goal.returns-clause-bytes
returns-clause-bytes c = (all_of packed_op IsOp c.args.out.now.items c.loop-operation.out.items c.args.operations.now c.loop-operation.operation-index c.loop-operation-test.false c.loop-operation.invariant).bytes

pub returns-clause-typed : goal.returns-clause-typed
returns-clause-typed c = (all_of packed_op IsOp c.args.out.now.items c.loop-operation.out.items c.args.operations.now c.loop-operation.operation-index c.loop-operation-test.false c.loop-operation.invariant).typed
