use Rattle.std.proofs.Common.{◌≡◌, length}
use Rattle.http_wire.specs.Length.{without_zeros}
use Rattle.http_wire.proofs.length.without_zeros.Given as goal

abbrev pub invariant-zeros : goal.invariant-zeros
invariant-zeros l = without_zeros l.rest ≡ without_zeros l.digits

abbrev pub decreases-zeros : goal.decreases-zeros
decreases-zeros l = length l.rest
