use Rattle.std.proofs.Common.{◌∙◌}
use Rattle.tile_grid.specs.Cell.{cell_of}
use Rattle.value_rows.proofs.Placed.{placed_now, may_come_back}
use Rattle.value_rows.proofs.tables.tiles.nodes_come_and_go.Goals as goal

pub leave-requires : goal.leave-requires
leave-requires c = placed_now _ c.place.new.self c.in-Some.at 7 c.place.ensures.nodes

pub come_back-requires : goal.come_back-requires
come_back-requires c =
    may_come_back c.room.new.self c.place.new.self c.leave.new.self c.in-Some.at 7
    (c.room.ensures.nodes (cell_of c.in-Some.at) 7 ∙ c.new-grid.ensures.nodes (cell_of c.in-Some.at) 7)
    c.place.ensures.nodes
    c.place.ensures.ever
    c.leave.ensures.nodes
    c.leave.ensures.ever
