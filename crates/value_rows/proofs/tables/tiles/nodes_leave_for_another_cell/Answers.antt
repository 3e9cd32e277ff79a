use Rattle.value_rows.proofs.Placed.{placed_now}
use Rattle.value_rows.proofs.tables.tiles.nodes_leave_for_another_cell.Goals as goal

pub leave-requires : goal.leave-requires
leave-requires c = placed_now _ c.place.new.self c.in-Some.from 7 c.place.ensures.nodes
