use Rattle.std.proofs.Common.{ap, ◌∙◌}
use Rattle.tile_grid.specs.Tile.{Held, times_in}
use Rattle.tile_grid.proofs.tiles.Tile.come_back.Goals as goal

pub returns-clause-ever : goal.returns-clause-ever
returns-clause-ever c other = c.bring_in.ensures.all other ∙ ap (λ (t : Held). times_in t.ever other) c.self.view_is
