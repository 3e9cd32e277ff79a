use Rattle.std.proofs.Common.{◌≡◌}
use Rattle.osm_element.specs.Elements.{keys_to}
use Rattle.plain_reads.proofs.past_map.keys_of.Given as goal

abbrev pub invariant-loop-place : goal.invariant-loop-place
invariant-loop-place l = l.found.items ≡ keys_to l.kind l.place
