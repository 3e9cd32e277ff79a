use Rattle.std.proofs.Common.{◌≡◌}
use Rattle.std.specs.Prelude.{count_by}
use Rattle.osm_element.specs.Elements.{keys_to, is_visible}
use Rattle.workload.proofs.figures.visible_count.Given as goal

abbrev pub invariant-loop-place : goal.invariant-loop-place
invariant-loop-place l = l.count ≡ count_by (is_visible l.store.elements) (keys_to l.kind l.place)
