use Rattle.std.proofs.Common.{take}
use Rattle.packed_entry.specs.Typed.{IsMember}
use Rattle.packed_entry.specs.Packed.{packed_member}
use Rattle.packed_entry.proofs.Puts.{Puts}
use Rattle.packed_entry.proofs.contents.put_each_member.Given as goal

abbrev pub invariant-loop-member : goal.invariant-loop-member
invariant-loop-member l = Puts packed_member IsMember l.initial.out.items l.out.items (take l.member-index l.members)
