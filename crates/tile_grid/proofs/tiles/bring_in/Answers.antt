use Rattle.std.proofs.Common.{◌+◌, List, ℕ, take, ap, ◌∙◌, arith}
use Rattle.tile_grid.specs.Tile.{times_in}
use Rattle.tile_grid.proofs.Exchanged.{brought_in, swap-counts}
use Rattle.tile_grid.proofs.tiles.bring_in.Goals as goal

pub returns-clause-first : goal.returns-clause-first
returns-clause-first c = λ other.
    ap (λ (l : List ℕ). times_in (take (c.args.here + 1) l) other) c.swap.ensures.items
    ∙ brought_in c.args.ids.now.items c.args.here c.args.place other c.requires.behind c.requires.within

pub returns-clause-all : goal.returns-clause-all
returns-clause-all c = λ other.
    ap (λ (l : List ℕ). times_in l other) c.swap.ensures.items
    ∙ swap-counts c.args.ids.now.items c.args.here c.args.place other (omega arith) c.requires.within
