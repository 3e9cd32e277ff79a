use Rattle.std.proofs.Common.{refl}
use Rattle.osm_element.proofs.labels.Table.none.Goals as goal

pub invariant_of-result : goal.invariant_of-result
invariant_of-result c = rw (c.new-2.ensures.items, c.new.ensures.bytes) refl
