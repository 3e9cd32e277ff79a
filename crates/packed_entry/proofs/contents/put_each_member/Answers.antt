use Rattle.packed_entry.specs.Typed.{IsMember}
use Rattle.packed_entry.specs.Packed.{packed_member}
use Rattle.packed_entry.proofs.Puts.{one_more, all_of}
use Rattle.packed_entry.proofs.contents.put_each_member.Goals as goal

pub loop-member-preserved : goal.loop-member-preserved
loop-member-preserved c =
    one_more packed_member IsMember _ _ _ c.args.members.now c.loop-member.member-index c.member-item.result c.member-item.result c.loop-member-test.true c.member-item.is c.in_ok-put_member.ensures.bytes c.in_ok-put_member.ensures.typed c.loop-member.invariant

pub returns-clause-bytes : goal.returns-clause-bytes
returns-clause-bytes c = (all_of packed_member IsMember c.args.out.now.items c.loop-member.out.items c.args.members.now c.loop-member.member-index c.loop-member-test.false c.loop-member.invariant).bytes

pub returns-clause-typed : goal.returns-clause-typed
returns-clause-typed c = (all_of packed_member IsMember c.args.out.now.items c.loop-member.out.items c.args.members.now c.loop-member.member-index c.loop-member-test.false c.loop-member.invariant).typed
