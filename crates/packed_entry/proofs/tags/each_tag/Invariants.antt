use Rattle.packed_entry.specs.Read.{tag_at}
use Rattle.packed_entry.proofs.Loops.{IsLeft}
use Rattle.packed_entry.proofs.tags.each_tag.Given as goal

abbrev pub invariant-loop : goal.invariant-loop
invariant-loop l = IsLeft tag_at l.count l.counter l.tags l.reader l.initial.reader
