use Rattle.std.proofs.Common.{◌≡◌, length}
use Rattle.route_table.specs.Parameters.{ids_in}
use Rattle.route_table.proofs.ParameterLemmas.{behind_ids}
use Rattle.route_table.proofs.parameters.ids_in.Given as goal

abbrev pub invariant-loop-part : goal.invariant-loop-part
invariant-loop-part l = ids_in l.fn.value ≡ behind_ids l.ids.items l.rest

abbrev pub decreases-loop-part : goal.decreases-loop-part
decreases-loop-part l = length l.rest
