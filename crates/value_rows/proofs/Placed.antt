-- Nodes that were placed, and that left.
use Rattle.std.proofs.Common.{◌≡◌, ℕ, ◌+◌, ◌<◌, Bool, true, ◌&&◌, List, refl, ap, arith}
use Rattle.std.specs.Prelude.{◌==◌, if◌then◌else◌}
use Rattle.std.proofs.lemmas.Bool.{eq-eqb, and_from}
use Rattle.osm_base.specs.Place.{Position}
use Rattle.tile_grid.specs.declared.cells.Cell.{Cell}
use Rattle.tile_grid.specs.Cell.{cell_of, cell_eq}
use Rattle.tile_grid.specs.Tile.{Held}
use Rattle.tile_grid.specs.Grid.{times, times_ever}

pub placed_now : (g h : List (List Held)) (p : Position) (id : ℕ) → ((c : Cell) (other : ℕ) → times h c other ≡ times g c other + (if cell_eq c (cell_of p) && (other == id) then 1 else 0)) → 0 < times h (cell_of p) id
placed_now g h p id more =
    let c : Cell = cell_of p in
    let here : cell_eq c (cell_of p) && (id == id) ≡ true = and_from _ _ (and_from _ _ (eq-eqb c.row c.row refl) (eq-eqb c.column c.column refl)) (eq-eqb id id refl) in
    let ones : Bool → ℕ = λ b. if b then 1 else 0 in
    let one : ones (cell_eq c (cell_of p) && (id == id)) ≡ ones true = ap ones here in
    omega (arith, more c id, one)

-- a node that left the cell in which it was placed may come back into it
pub may_come_back :
    (none g h : List (List Held)) (p : Position) (id : ℕ)
    → times none (cell_of p) id ≡ 0
    → ((c : Cell) (other : ℕ) → times g c other ≡ times none c other + (if cell_eq c (cell_of p) && (other == id) then 1 else 0))
    → ((c : Cell) (other : ℕ) → times_ever g c other ≡ times_ever none c other + (if cell_eq c (cell_of p) && (other == id) then 1 else 0))
    → ((c : Cell) (other : ℕ) → times h c other + (if cell_eq c (cell_of p) && (other == id) then 1 else 0) ≡ times g c other)
    → ((c : Cell) (other : ℕ) → times_ever h c other ≡ times_ever g c other)
    → times h (cell_of p) id < times_ever h (cell_of p) id
may_come_back none g h p id empty placed ever left kept =
    let c : Cell = cell_of p in
    let here : cell_eq c (cell_of p) && (id == id) ≡ true = and_from _ _ (and_from _ _ (eq-eqb c.row c.row refl) (eq-eqb c.column c.column refl)) (eq-eqb id id refl) in
    let ones : Bool → ℕ = λ b. if b then 1 else 0 in
    let one : ones (cell_eq c (cell_of p) && (id == id)) ≡ ones true = ap ones here in
    omega (arith, empty, placed c id, ever c id, left c id, kept c id, one)
