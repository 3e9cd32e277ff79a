-- The cells of the visible nodes.
use Rattle.std.specs.Prelude.{◌≡◌, ℕ, Bool, false, List, Option, if◌then◌else◌}
use Rattle.std.specs.Option.{option_map_or}
use Rattle.osm_base.specs.Place.{Position}
use Rattle.osm_base.specs.declared.keys.Kind.TheVariants.{Node}
use Rattle.osm_element.specs.Elements.{key, position}
use Rattle.osm_element.specs.declared.elements.Elements.{Elements}
use Rattle.tile_grid.specs.declared.cells.Cell.{Cell}
use Rattle.tile_grid.specs.Cell.{cell_of, cell_eq}
use Rattle.tile_grid.specs.Grid.{times, same_cell}
use Rattle.tile_grid.specs.Tile.{Held}

-- there is a position, and it lies in the cell
abbrev pub lies : Cell → Option Position → Bool
lies c at = option_map_or (λ p. cell_eq c (cell_of p)) at false

-- a visible node lies in the cell
abbrev pub lies_in : Elements → Cell → ℕ → Bool
lies_in E c n = lies c (position E (key Node n))

-- there is a position, and it lies in the cell of this one
abbrev pub enters : Position → Option Position → Bool
enters p at = option_map_or (same_cell p) at false

-- both are positions, and lie in one cell
abbrev pub share_cell : Option Position → Option Position → Bool
share_cell from to = option_map_or (λ p. enters p to) from false

-- each visible node is placed once, in the cell in which it lies, and nothing else is
pub record IsPlaced (E : Elements) (g : List (List Held)) : Type 0 where
  pub holds : (c : Cell) (n : ℕ) → times g c n ≡ if lies_in E c n then 1 else 0
