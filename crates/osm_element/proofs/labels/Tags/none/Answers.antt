use Rattle.std.specs.List.Sorted.{IsStrictlySortedBy}
use Rattle.osm_element.proofs.labels.Tags.none.Goals as goal

pub invariant_of-result : goal.invariant_of-result
unfolding IsStrictlySortedBy
invariant_of-result c = tt
