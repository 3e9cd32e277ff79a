-- The nodes in the cells that an area touches.
use Rattle.std.specs.Prelude.{ℕ, Bool, false, List, filter}
use Rattle.std.specs.Option.{option_map_or}
use Rattle.osm_base.specs.Place.{Area}
use Rattle.osm_base.specs.declared.keys.Kind.TheVariants.{Node}
use Rattle.osm_element.specs.Elements.{key, position}
use Rattle.osm_element.specs.declared.elements.Elements.{Elements}
use Rattle.osm_model.specs.Reads.{ids_of}
use Rattle.tile_grid.specs.Cell.{cell_of, touches}

-- a visible node lies in a cell that the area touches
abbrev pub is_near : Elements → Area → ℕ → Bool
is_near E a n = option_map_or (λ p. touches a (cell_of p)) (position E (key Node n)) false

abbrev pub nodes_near : Elements → Area → List ℕ
nodes_near E a = filter (is_near E a) (ids_of E Node)
