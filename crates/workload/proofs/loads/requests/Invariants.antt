use Rattle.std.proofs.Common.{◌≡◌, ◌++◌, length}
use Rattle.workload.specs.Request.{requests}
use Rattle.workload.proofs.loads.requests.Given as goal

abbrev pub invariant-loop-made : goal.invariant-loop-made
invariant-loop-made l = l.made.items ++ l.load ≡ requests l.fn.seed l.fn.sessions l.fn.uploads

abbrev pub decreases-loop-made : goal.decreases-loop-made
decreases-loop-made l = length l.load
