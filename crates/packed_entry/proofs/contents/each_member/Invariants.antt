use Rattle.packed_entry.specs.Read.{member_at}
use Rattle.packed_entry.proofs.Loops.{IsLeft}
use Rattle.packed_entry.proofs.contents.each_member.Given as goal

abbrev pub invariant-loop : goal.invariant-loop
invariant-loop l = IsLeft member_at l.count l.counter l.members.items l.reader l.initial.reader
