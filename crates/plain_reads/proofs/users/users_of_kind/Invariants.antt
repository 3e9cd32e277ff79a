use Rattle.std.proofs.Common.{◌≡◌, map}
use Rattle.std.specs.Prelude.{filter}
use Rattle.osm_element.specs.Elements.{keys_to, uses}
use Rattle.osm_model.specs.Reads.{current_shown}
use Rattle.plain_reads.proofs.users.users_of_kind.Given as goal

abbrev pub invariant-loop-place : goal.invariant-loop-place
invariant-loop-place l = l.found.items ≡ map (current_shown l.elements) (filter (λ a. uses l.elements a l.used) (keys_to l.kind l.place))
