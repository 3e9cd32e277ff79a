use Rattle.std.proofs.Common.{refl}
use Rattle.osm_element.proofs.labels.Table.with_room.Goals as goal

pub invariant_of-result : goal.invariant_of-result
invariant_of-result c = rw (c.in_ok-with_capacity-2.ensures.items, c.in_ok-with_capacity.ensures.bytes) refl
