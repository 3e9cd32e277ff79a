use Rattle.std.proofs.Common.{◌+◌, ℕ, List, take, ap, ◌∙◌, arith}
use Rattle.tile_grid.specs.Tile.{Held, times_in}
use Rattle.std.specs.Prelude.{◌==◌, if◌then◌else◌}
use Rattle.tile_grid.proofs.Counts.{times-push}
use Rattle.tile_grid.proofs.Exchanged.{come_in}
use Rattle.tile_grid.proofs.tiles.Tile.place.Goals as goal

pub returns-clause-ids : goal.returns-clause-ids
returns-clause-ids c other =
    come_in c.self.inside.ids.items c.push_reserved.new.self.items (take (c.self.inside.here + 1) c.bring_in.new.ids.items) c.self.inside.here c.len-last.result c.args.id other
    (omega arith)
    (omega arith)
    c.push_reserved.ensures.items
    (c.bring_in.ensures.first other)
    ∙ ap (λ (t : Held). times_in t.ids other + (if other == c.args.id then 1 else 0)) c.self.view_is

pub returns-clause-ever : goal.returns-clause-ever
returns-clause-ever c other =
    c.bring_in.ensures.all other
    ∙ ap (λ (l : List ℕ). times_in l other) c.push_reserved.ensures.items
    ∙ times-push c.self.inside.ids.items c.args.id other
    ∙ ap (λ (t : Held). times_in t.ever other + (if other == c.args.id then 1 else 0)) c.self.view_is
