use Rattle.std.proofs.lemmas.Result.{err_from_is_err_and}
use Rattle.packed_entry.specs.Read.{name_at}
use Rattle.packed_entry.proofs.Loops.{goes_on, ends, is_done}
use Rattle.packed_entry.proofs.contents.each_name.Goals as goal

pub returns-in_err-name : goal.returns-in_err-name
returns-in_err-name c =
    let p = err_from_is_err_and c.from_residual-in_err-name.result c.from_residual-in_err-name.ensures.1 in
    rw (p.1, p.2) (ends name_at c.args.count c.loop.counter c.loop.names.items c.loop.reader c.args.reader.now c.in_err-name.field-0.0 c.loop-test.true c.in_err-name.ensures c.loop.invariant)

pub loop-preserved : goal.loop-preserved
loop-preserved c =
    goes_on name_at c.args.count c.loop.counter c.loop.names.items _ c.loop.reader _ c.args.reader.now c.in_ok-name.name c.loop-test.true c.in_ok-name.ensures c.in_ok-push.ensures.items c.loop.invariant

pub returns : goal.returns
returns c = is_done name_at c.args.count c.loop.counter c.loop.names.items c.loop.reader c.args.reader.now c.loop-test.false c.loop.invariant
