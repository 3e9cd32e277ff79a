use Rattle.std.proofs.Common.{Option, ap, ◌∙◌}
use Rattle.std.specs.Prelude.{if◌then◌else◌}
use Rattle.osm_base.specs.Place.{Position}
use Rattle.tile_grid.specs.Cell.{cell_of}
use Rattle.tile_grid.specs.Grid.{times}
use Rattle.indexed_map.specs.Placed.{lies}
use Rattle.indexed_map.proofs.Moved.{placed}
use Rattle.indexed_map.proofs.moves.leave.Goals as goal

pub leave-requires : goal.leave-requires
leave-requires c =
    placed (times c.args.grid.now (cell_of c.in-Some.at) c.args.id) c.in-Some.at
    (c.requires (cell_of c.in-Some.at) ∙ ap (λ (o : Option Position). if lies (cell_of c.in-Some.at) o then 1 else 0) c.in-Some.is)
