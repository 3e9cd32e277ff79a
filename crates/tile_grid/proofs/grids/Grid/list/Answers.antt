use Rattle.std.proofs.Common.{◌≡◌, ℕ, ◌≤◌, ◌||◌, List, [], get_or, ap, ◌∙◌, subst, arith}
use Rattle.std.specs.List.{list_any}
use Rattle.rising_lists.specs.Ids.{lists_id}
use Rattle.tile_grid.specs.declared.cells.Cell.{Cell}
use Rattle.tile_grid.specs.Cell.{first_cell, last_cell}
use Rattle.tile_grid.specs.Tile.{Held, IsWestToEast}
use Rattle.tile_grid.proofs.Between.{between}
use Rattle.tile_grid.proofs.Found.{each_more, all_more}
use Rattle.tile_grid.proofs.grids.Grid.list.Goals as goal

pub loop-number-preserved : goal.loop-number-preserved
loop-number-preserved c =
    let a = c.args.within.now in
    let g : List (List Held) = c.args.self.now in
    let n = c.loop-number.number in
    let old = c.loop-number.ids.items in
    let new = c.list_row.new.ids.items in
    let first : c.first-first.result ≡ first_cell a = c.first-first.ensures in
    let last : c.last-last.result ≡ last_cell a = c.last-last.ensures in
    let first_row : c.first-first.result.row ≡ (first_cell a).row = ap (λ (k : Cell). k.row) first in
    let last_row : c.last-last.result.row ≡ (last_cell a).row = ap (λ (k : Cell). k.row) last in
    let rows : c.as_slice.result.now ≡ g = c.as_slice.ensures.value ∙ c.self.view_is in
    let order : IsWestToEast (get_or g n []) = let P : List (List Held) → Type 0 = λ l. IsWestToEast (get_or l n []) in subst P rows c.in_ok-list_row.ensures.order in
    let more : (id : ℕ) → lists_id new id ≡ lists_id old id || list_any (between c.args.part (first_cell a).column (last_cell a).column id) (get_or g n [])
    = λ id. c.in_ok-list_row.ensures.ids id
    ∙ ap (λ (k : Cell). lists_id old id || list_any (between c.args.part k.column c.last-last.result.column id) (get_or c.as_slice.result.now n [])) first
    ∙ ap (λ (k : Cell). lists_id old id || list_any (between c.args.part (first_cell a).column k.column id) (get_or c.as_slice.result.now n [])) last
    ∙ ap (λ (l : List (List Held)). lists_id old id || list_any (between c.args.part (first_cell a).column (last_cell a).column id) (get_or l n [])) rows in
    let low : (first_cell a).row ≤ n = omega (arith, first_row) in
    let high : n ≤ (last_cell a).row = omega (arith, last_row) in
    record {
      each = each_more c.args.part g a n old new low high order more c.loop-number.invariant.each;
      all = all_more c.args.part g a n old new more c.loop-number.invariant.all;
    }
