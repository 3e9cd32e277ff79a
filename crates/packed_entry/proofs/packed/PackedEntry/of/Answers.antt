use Rattle.packed_entry.proofs.AgainParts.{StandsFor, stands_for}
use Rattle.packed_entry.proofs.packed.PackedEntry.of.Goals as goal

stands : (c : goal.In_ok-bytes) → StandsFor c.in_ok-bytes.bytes.items c.args.entry.now
stands c = stands_for c.in_ok-bytes.bytes.items c.args.entry.now c.in_ok-bytes.ensures.bytes c.in_ok-bytes.ensures.typed

pub invariant_of-result : goal.invariant_of-result
invariant_of-result c = (stands c).packed

pub returns : goal.returns
returns c = (stands c).entry
