-- What a map call selects (wiki, API v0.6, "Retrieving map data by bounding box").
use Rattle.std.specs.Prelude.{ℕ, Bool, false, ◌||◌, nat_lt, if◌then◌else◌, List, ◌++◌, length, map, filter, Result, Ok, Err}
use Rattle.std.specs.List.{list_any}
use Rattle.std.specs.Option.{option_map_or}
use Rattle.osm_base.specs.Place.{Area, area_holds, square_units}
use Rattle.osm_base.specs.Key.{lists_key}
use Rattle.osm_base.specs.declared.keys.Kind.TheVariants.{Node, Way, Relation}
use Rattle.osm_base.specs.declared.keys.Key.{Key}
use Rattle.osm_base.specs.declared.limits.TheConstants.{AREA_LIMIT, MAP_NODE_LIMIT}
use Rattle.osm_element.specs.Elements.{key, refs_of, position}
use Rattle.osm_element.specs.declared.elements.Elements.{Elements}
use Rattle.osm_change.specs.declared.reads.MapFault.{MapFault}
use Rattle.osm_change.specs.declared.reads.MapFault.TheVariants.{TooLarge, TooMany}
use Rattle.osm_change.specs.declared.reads.Selection.{Selection}
use Rattle.osm_change.specs.declared.reads.VersionId.{VersionId}
use Rattle.osm_model.specs.Reads.{ids_of, current_shown}

-- the first is visible and lists the second
abbrev pub lists : Elements → Key → Key → Bool
lists E a b = lists_key (refs_of E a) b

-- a visible node lies in the area, edges included
abbrev pub is_inside : Elements → Area → ℕ → Bool
is_inside E a n = option_map_or (area_holds a) (position E (key Node n)) false

abbrev pub nodes_within : Elements → Area → List ℕ
nodes_within E a = filter (is_inside E a) (ids_of E Node)

-- the ways that list a node in the area
abbrev pub ways_met : Elements → Area → List ℕ
ways_met E a = filter (λ w. list_any (λ n. lists E (key Way w) (key Node n)) (nodes_within E a)) (ids_of E Way)

-- the nodes in the area, and those that one of these ways lists
abbrev pub nodes_met : Elements → Area → List ℕ
nodes_met E a = filter (λ n. is_inside E a n || list_any (λ w. lists E (key Way w) (key Node n)) (ways_met E a)) (ids_of E Node)

-- the relations that list one of these nodes or ways
abbrev pub lists_met : Elements → Area → ℕ → Bool
lists_met E a r = list_any (λ n. lists E (key Relation r) (key Node n)) (nodes_met E a) || list_any (λ w. lists E (key Relation r) (key Way w)) (ways_met E a)

abbrev pub first_relations : Elements → Area → List ℕ
first_relations E a = filter (lists_met E a) (ids_of E Relation)

-- those, and the relations that list one of them
abbrev pub relations_met : Elements → Area → List ℕ
relations_met E a = filter (λ r. lists_met E a r || list_any (λ q. lists E (key Relation r) (key Relation q)) (first_relations E a)) (ids_of E Relation)

abbrev pub selection : Elements → Area → Selection
selection E a = record { nodes = nodes_met E a; ways = ways_met E a; relations = relations_met E a }

-- the area of the box is tested before the number of nodes in it
abbrev pub map_of : Elements → Area → Result Selection MapFault
map_of E a =
    if nat_lt AREA_LIMIT (square_units a) then Err (TooLarge (square_units a))
    else if nat_lt MAP_NODE_LIMIT (length (nodes_within E a)) then Err (TooMany (length (nodes_within E a)))
    else Ok (selection E a)

-- nodes, then ways, then relations, each by id
abbrev pub selected : Elements → Selection → List VersionId
selected E S =
    map (λ n. current_shown E (key Node n)) S.nodes
    ++ (map (λ w. current_shown E (key Way w)) S.ways ++ map (λ r. current_shown E (key Relation r)) S.relations)
