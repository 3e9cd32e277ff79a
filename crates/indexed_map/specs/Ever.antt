-- What every version of an element held, and not the last one alone.
use Rattle.std.specs.Prelude.{◌≡◌, ℕ, ◌+◌, Bool, ◌&&◌, not, if◌then◌else◌, List, [], ◌∷◌, Option, None}
use Rattle.std.specs.List.{list_any}
use Rattle.std.specs.Option.{option_or}
use Rattle.osm_base.specs.Key.{key_eq, lists_key}
use Rattle.osm_base.specs.Place.{Position}
use Rattle.osm_base.specs.declared.keys.Kind.TheVariants.{Node}
use Rattle.osm_base.specs.declared.keys.Key.{Key}
use Rattle.osm_element.specs.Elements.{key, refs_in}
use Rattle.osm_element.specs.Later.{contents}
use Rattle.osm_element.specs.declared.contents.Content.{Content}
use Rattle.osm_element.specs.declared.elements.Elements.{Elements}
use Rattle.changeset_core.specs.Changeset.{new_position}
use Rattle.tile_grid.specs.declared.cells.Cell.{Cell}
use Rattle.tile_grid.specs.Grid.{times_ever}
use Rattle.tile_grid.specs.Tile.{Held}
use Rattle.indexed_map.specs.Placed.{lies}

-- some version of an element passes a test on what it holds
abbrev pub ever : (Option (Content ℕ) → Bool) → Elements → Key → Bool
ever test E k = list_any test (contents E k)

-- some version of a lists b, and a isn't b
abbrev pub has_used : Elements → Key → Key → Bool
has_used E a b = ever (λ held. lists_key (refs_in held) b) E a && not (key_eq a b)

-- some version of a node lies in the cell
abbrev pub has_lain : Elements → Cell → ℕ → Bool
has_lain E c n = ever (λ held. lies c (new_position held)) E (key Node n)

-- where a node lay last with some contents, which lay at a position before them, if at any
abbrev pub last_place : Option Position → List (Option (Content ℕ)) → Option Position
last_place before [] = before
last_place before (held ∷ later) = last_place (option_or (new_position held) before) later

-- how often some contents, one after the other, bring a node into a cell, which lay at a position before them, if at any
abbrev pub times_brought : Cell → Option Position → List (Option (Content ℕ)) → ℕ
times_brought c before [] = 0
times_brought c before (held ∷ later) =
    (if lies c (new_position held) && not (lies c before) then 1 else 0) + times_brought c (option_or (new_position held) before) later

-- where the last version of an element lies that has a position, be the element deleted since or not
abbrev pub place_ever : Elements → Key → Option Position
place_ever E k = last_place None (contents E k)

-- each node was placed in a cell once for each version that lies there, unless the version with a position before it does, and nothing else was
pub record IsPlacedEver (E : Elements) (g : List (List Held)) : Type 0 where
  pub holds : (c : Cell) (n : ℕ) → times_ever g c n ≡ times_brought c None (contents E (key Node n))
