-- Positions in one cell.
use Rattle.std.proofs.Common.{◌≡◌, ℕ, Bool, true, false, ◌&&◌, Option, Some, None, refl, sym, ap, ◌∙◌}
use Rattle.std.specs.Prelude.{◌==◌, not}
use Rattle.std.proofs.lemmas.Bool.{eqb-true}
use Rattle.osm_base.specs.Place.{Position}
use Rattle.tile_grid.specs.declared.cells.Cell.{Cell}
use Rattle.tile_grid.specs.Cell.{cell_of, cell_eq}
use Rattle.indexed_map.specs.Placed.{lies, share_cell}

abbrev cell : ℕ → ℕ → Cell
cell row column = record { row = row; column = column }

cell_same : (c d : Cell) → cell_eq c d ≡ true → c ≡ d
cell_same c d same =
    let parts = both (c.row == d.row) (c.column == d.column) same in
    ap (λ (row : ℕ). cell row c.column) (eqb-true c.row d.row parts.0)
    ∙ ap (λ (column : ℕ). cell d.row column) (eqb-true c.column d.column parts.1)
  where
    both : (p q : Bool) → p && q ≡ true → (p ≡ true) × (q ≡ true)
    both true q h = (refl, h)
    both false q h = cc

-- both lie in the same cells
pub together : (from to : Option Position) → share_cell from to ≡ true → (c : Cell) → lies c from ≡ lies c to
together None to shared c = cc
together (Some p) None shared c = cc
together (Some p) (Some q) shared c = ap (cell_eq c) (cell_same (cell_of p) (cell_of q) shared)

-- so none is entered
pub none-entered : (from to : Option Position) → share_cell from to ≡ true → (c : Cell) → lies c to && not (lies c from) ≡ false
none-entered from to shared c = ap (λ (b : Bool). b && not (lies c from)) (sym (together from to shared c)) ∙ never (lies c from)
  where
    never : (b : Bool) → b && not b ≡ false
    never true = refl
    never false = refl
