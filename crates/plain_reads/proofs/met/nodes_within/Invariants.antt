use Rattle.std.proofs.Common.{◌≡◌}
use Rattle.std.specs.Prelude.{filter}
use Rattle.osm_model.specs.Selection.{is_inside}
use Rattle.rising_lists.specs.Ids.{ids_to}
use Rattle.plain_reads.proofs.met.nodes_within.Given as goal

abbrev pub invariant-loop-place : goal.invariant-loop-place
invariant-loop-place l = l.ids.items ≡ filter (is_inside l.elements l.within) (ids_to l.place)
