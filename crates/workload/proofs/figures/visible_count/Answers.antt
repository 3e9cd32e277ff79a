use Rattle.std.proofs.Common.{arith}
use Rattle.osm_element.specs.Elements.{is_visible}
use Rattle.workload.proofs.CountLemmas.{few_counted}
use Rattle.workload.proofs.figures.visible_count.Goals as goal

pub overflow_add-count : goal.overflow_add-count
overflow_add-count c =
    omega (arith, few_counted (is_visible c.args.store.now.elements) c.args.kind c.loop-place.place c.loop-place.count c.loop-place.invariant)
