use Rattle.std.proofs.Common.{take}
use Rattle.packed_entry.specs.Typed.{IsTag}
use Rattle.packed_entry.specs.Packed.{packed_tag}
use Rattle.packed_entry.proofs.Puts.{Puts}
use Rattle.packed_entry.proofs.tags.put_each_tag.Given as goal

abbrev pub invariant-loop-index : goal.invariant-loop-index
invariant-loop-index l = Puts packed_tag IsTag l.initial.out.items l.out.items (take l.index l.tags)
