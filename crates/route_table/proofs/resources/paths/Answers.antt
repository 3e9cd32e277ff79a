use Rattle.std.proofs.Common.{refl}
use Rattle.route_table.specs.Paths.{paths}
use Rattle.route_table.proofs.resources.paths.Goals as goal

pub returns : goal.returns
unfolding paths
returns c = refl
