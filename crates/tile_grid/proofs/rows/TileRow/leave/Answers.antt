use Rattle.std.proofs.Common.{arith}
use Rattle.std.proofs.lemmas.Grind.{common_steps}
use Rattle.tile_grid.proofs.rows.TileRow.leave.Goals as goal

pub returns-clause-ever : goal.returns-clause-ever
returns-clause-ever c cell other = grind (arith, common_steps, c.leave_in.ensures.ever cell other, c.self.view_is)
