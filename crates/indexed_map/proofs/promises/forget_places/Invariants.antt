use Rattle.std.proofs.Common.{◌≡◌, ℕ, take}
use Rattle.std.specs.Prelude.{if◌then◌else◌}
use Rattle.std.specs.List.{list_any}
use Rattle.osm_base.specs.Place.{Position}
use Rattle.tile_grid.specs.declared.cells.Cell.{Cell}
use Rattle.tile_grid.specs.Grid.{times, times_ever, free_at, same_cell}
use Rattle.indexed_map.proofs.promises.forget_places.Given as goal

abbrev pub invariant-loop-at : goal.invariant-loop-at
invariant-loop-at l = record {
  nodes : (c : Cell) (n : ℕ) → times l.grid c n ≡ times l.fn.grid c n;
  ever : (c : Cell) (n : ℕ) → times_ever l.grid c n ≡ times_ever l.fn.grid c n;
  room : (p : Position) → free_at l.grid p ≡ (if list_any (same_cell p) (take l.at-index l.places) then 0 else free_at l.fn.grid p);
}
