use Rattle.packed_entry.specs.Read.{name_at}
use Rattle.packed_entry.proofs.Loops.{IsLeft}
use Rattle.packed_entry.proofs.contents.each_name.Given as goal

abbrev pub invariant-loop : goal.invariant-loop
invariant-loop l = IsLeft name_at l.count l.counter l.names.items l.reader l.initial.reader
