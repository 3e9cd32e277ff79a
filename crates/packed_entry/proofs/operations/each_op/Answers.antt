use Rattle.std.proofs.lemmas.Result.{err_from_is_err_and}
use Rattle.packed_entry.specs.Read.{op_at}
use Rattle.packed_entry.proofs.Loops.{goes_on, ends, is_done}
use Rattle.packed_entry.proofs.operations.each_op.Goals as goal

pub returns-in_err-operation : goal.returns-in_err-operation
returns-in_err-operation c =
    let p = err_from_is_err_and c.from_residual-in_err-operation.result c.from_residual-in_err-operation.ensures.1 in
    rw (p.1, p.2) (ends op_at c.args.count c.loop.counter c.loop.operations.items c.loop.reader c.args.reader.now c.in_err-operation.field-0.0 c.loop-test.true c.in_err-operation.ensures c.loop.invariant)

pub loop-preserved : goal.loop-preserved
loop-preserved c =
    goes_on op_at c.args.count c.loop.counter c.loop.operations.items _ c.loop.reader _ c.args.reader.now c.in_ok-operation.operation c.loop-test.true c.in_ok-operation.ensures c.in_ok-push.ensures.items c.loop.invariant

pub returns : goal.returns
returns c = is_done op_at c.args.count c.loop.counter c.loop.operations.items c.loop.reader c.args.reader.now c.loop-test.false c.loop.invariant
