use Rattle.std.proofs.Common.{◌≡◌, map}
use Rattle.std.specs.Prelude.{filter}
use Rattle.osm_model.specs.Reads.{shown, is_shown}
use Rattle.rising_lists.specs.Ids.{ids_to}
use Rattle.read_calls.proofs.elements.versions.Given as goal

abbrev pub invariant-loop-place : goal.invariant-loop-place
invariant-loop-place l = l.found.items ≡ map (shown l.key) (filter (is_shown l.store.elements l.key l.show) (ids_to l.place))
