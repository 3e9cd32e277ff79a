use Rattle.std.proofs.Common.{◌≡◌, ℕ, ◌<◌, true}
use Rattle.tile_grid.specs.declared.cells.Cell.{Cell}
use Rattle.tile_grid.specs.Cell.{touches}
use Rattle.tile_grid.specs.Grid.{times_of, HeldAt}
use Rattle.rising_lists.specs.Ids.{lists_id}
use Rattle.tile_grid.proofs.grids.Grid.list.Given as goal

abbrev pub invariant-loop-number : goal.invariant-loop-number
invariant-loop-number l = record {
  each : (id : ℕ) → lists_id l.ids.items id ≡ true → HeldAt l.part l.self l.within id;
  all : (c : Cell) (id : ℕ) → touches l.within c ≡ true → c.row < l.number → 0 < times_of l.part l.self c id → lists_id l.ids.items id ≡ true;
}
