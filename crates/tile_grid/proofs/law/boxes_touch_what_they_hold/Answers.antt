use Rattle.tile_grid.proofs.Touched.{touched}
use Rattle.tile_grid.proofs.law.boxes_touch_what_they_hold.Goals as goal

pub returns : goal.returns
returns c = touched
