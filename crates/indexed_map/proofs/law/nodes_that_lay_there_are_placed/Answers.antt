use Rattle.indexed_map.proofs.EverHeld.{lain-placed}
use Rattle.indexed_map.proofs.law.nodes_that_lay_there_are_placed.Goals as goal

pub returns : goal.returns
returns c = lain-placed
