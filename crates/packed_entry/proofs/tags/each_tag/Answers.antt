use Rattle.std.proofs.lemmas.Result.{err_from_is_err_and}
use Rattle.packed_entry.specs.Read.{tag_at}
use Rattle.packed_entry.proofs.Loops.{goes_on, ends, is_done}
use Rattle.packed_entry.proofs.tags.each_tag.Goals as goal

pub returns-in_err-key : goal.returns-in_err-key
returns-in_err-key c =
    let p = err_from_is_err_and c.from_residual-in_err-key.result c.from_residual-in_err-key.ensures.1 in
    rw (p.1, p.2) (ends tag_at c.args.count c.loop.counter c.loop.tags c.loop.reader c.args.reader.now c.in_err-key.field-0.0 c.loop-test.true c.in_err-key.ensures c.loop.invariant)

pub loop-preserved : goal.loop-preserved
loop-preserved c =
    goes_on tag_at c.args.count c.loop.counter c.loop.tags _ c.loop.reader _ c.args.reader.now (c.in_ok-key.key.now, c.in_ok-key.value.now) c.loop-test.true c.in_ok-key.ensures c.in_ok-tags-2.ensures c.loop.invariant

pub returns : goal.returns
returns c = is_done tag_at c.args.count c.loop.counter c.loop.tags c.loop.reader c.args.reader.now c.loop-test.false c.loop.invariant
