use Rattle.std.specs.List.Sorted.{IsStrictlySortedBy}
use Rattle.osm_element.proofs.labels.Tags.with_room.Goals as goal

pub invariant_of-result : goal.invariant_of-result
unfolding IsStrictlySortedBy
invariant_of-result c = rw (c.in_ok-table.ensures.ok, c.of-table.ensures, c.in_ok-with_room.ensures) tt
