use Rattle.std.proofs.lemmas.Result.{err_from_is_err_and}
use Rattle.packed_entry.specs.Read.{member_at}
use Rattle.packed_entry.proofs.Loops.{goes_on, ends, is_done}
use Rattle.packed_entry.proofs.contents.each_member.Goals as goal

pub returns-in_err-member : goal.returns-in_err-member
returns-in_err-member c =
    let p = err_from_is_err_and c.from_residual-in_err-member.result c.from_residual-in_err-member.ensures.1 in
    rw (p.1, p.2) (ends member_at c.args.count c.loop.counter c.loop.members.items c.loop.reader c.args.reader.now c.in_err-member.field-0.0 c.loop-test.true c.in_err-member.ensures c.loop.invariant)

pub loop-preserved : goal.loop-preserved
loop-preserved c =
    goes_on member_at c.args.count c.loop.counter c.loop.members.items _ c.loop.reader _ c.args.reader.now c.in_ok-member.member c.loop-test.true c.in_ok-member.ensures c.in_ok-push.ensures.items c.loop.invariant

pub returns : goal.returns
returns c = is_done member_at c.args.count c.loop.counter c.loop.members.items c.loop.reader c.args.reader.now c.loop-test.false c.loop.invariant
