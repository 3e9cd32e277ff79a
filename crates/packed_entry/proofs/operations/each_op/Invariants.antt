use Rattle.packed_entry.specs.Read.{op_at}
use Rattle.packed_entry.proofs.Loops.{IsLeft}
use Rattle.packed_entry.proofs.operations.each_op.Given as goal

abbrev pub invariant-loop : goal.invariant-loop
invariant-loop l = IsLeft op_at l.count l.counter l.operations.items l.reader l.initial.reader
