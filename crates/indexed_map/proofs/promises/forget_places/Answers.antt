use Rattle.std.proofs.Common.{◌∙◌, ap}
use Rattle.std.specs.Prelude.{if◌then◌else◌}
use Rattle.osm_base.specs.Place.{Position}
use Rattle.tile_grid.specs.Grid.{free_at, same_cell}
use Rattle.indexed_map.proofs.UseSteps.{forgotten_any}
use Rattle.indexed_map.proofs.promises.forget_places.Goals as goal

pub loop-at-preserved : goal.loop-at-preserved
loop-at-preserved c = record {
  nodes = λ cell n. c.forget.ensures.nodes cell n ∙ c.loop-at.invariant.nodes cell n;
  ever = λ cell n. c.forget.ensures.ever cell n ∙ c.loop-at.invariant.ever cell n;
  room = λ p. forgotten_any (same_cell p) c.args.places.now c.loop-at.at-index c.at-item.result (free_at c.args.grid.now p) (free_at c.loop-at.grid p) (free_at c.forget.new.self p)
      c.loop-at-test.true
      (c.forget.ensures.room p ∙ ap (λ (q : Position). if same_cell p q then 0 else free_at c.loop-at.grid p) c.at-item.is)
      (c.loop-at.invariant.room p);
}
