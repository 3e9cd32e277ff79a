use Rattle.std.proofs.Common.{◌≡◌, ◌++◌}
use Rattle.std.specs.Prelude.{filter}
use Rattle.osm_element.specs.Elements.{keys_to, uses}
use Rattle.osm_element.proofs.usage.add_users.Given as goal

abbrev pub invariant-loop-place : goal.invariant-loop-place
invariant-loop-place l = l.found.items ≡ l.fn.found.items ++ filter (λ a. uses l.elements a l.used) (keys_to l.kind l.place)
