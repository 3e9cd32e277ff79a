use Rattle.std.proofs.Common.{arith}
use Rattle.std.proofs.lemmas.Grind.{common_steps}
use Rattle.tile_grid.proofs.grids.Grid.leave.Goals as goal

pub returns-clause-ever : goal.returns-clause-ever
returns-clause-ever c cell other = grind (arith, common_steps, c.leave.ensures.ever cell.column other)
