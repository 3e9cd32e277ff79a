use Rattle.std.proofs.Common.{◌+◌, List, ℕ, take, ap, ◌∙◌, arith}
use Rattle.std.specs.Prelude.{◌==◌, slice_index, if◌then◌else◌}
use Rattle.tile_grid.specs.Tile.{times_in}
use Rattle.tile_grid.proofs.Exchanged.{brought_out, swap-counts}
use Rattle.tile_grid.proofs.tiles.bring_out.Goals as goal

pub returns-clause-first : goal.returns-clause-first
returns-clause-first c = λ other.
    ap (λ (l : List ℕ). times_in (take c.args.here l) other + (if other == slice_index c.args.ids.now.items c.args.place then 1 else 0)) c.swap.ensures.items
    ∙ brought_out c.args.ids.now.items c.args.place c.args.here other c.requires.before c.requires.within

pub returns-clause-all : goal.returns-clause-all
returns-clause-all c = λ other.
    ap (λ (l : List ℕ). times_in l other) c.swap.ensures.items
    ∙ swap-counts c.args.ids.now.items c.args.place c.args.here other (omega arith) c.requires.within
