use Rattle.std.proofs.Common.{take}
use Rattle.osm_change.specs.Referents.{Fits}
use Rattle.packed_entry.specs.Packed.{packed_name}
use Rattle.packed_entry.proofs.Puts.{Puts}
use Rattle.packed_entry.proofs.contents.put_each_name.Given as goal

abbrev pub invariant-loop-name : goal.invariant-loop-name
invariant-loop-name l = Puts packed_name Fits l.initial.out.items l.out.items (take l.name-index l.names)
