use Rattle.std.proofs.Common.{◌≡◌, map, take}
use Rattle.std.specs.Prelude.{filter}
use Rattle.osm_base.specs.Key.{kind_eq}
use Rattle.osm_model.specs.Reads.{current_shown}
use Rattle.read_calls.proofs.users.of_kind.Given as goal

abbrev pub invariant-loop-user : goal.invariant-loop-user
invariant-loop-user l = l.found.items ≡ map (current_shown l.store.elements) (filter (λ a. kind_eq a.kind l.kind) (take l.user-index l.users))
