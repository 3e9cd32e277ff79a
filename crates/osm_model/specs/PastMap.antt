-- What a map call of an earlier stamp shows: as one of now, but of the elements that are shown alone.
use Rattle.std.specs.Prelude.{ℕ, Bool, false, ◌&&◌, ◌||◌, nat_lt, if◌then◌else◌, List, ◌++◌, length, map, filter, Result, Ok, Err}
use Rattle.std.specs.List.{list_any}
use Rattle.std.specs.Option.{option_map_or}
use Rattle.osm_base.specs.Key.{lists_key}
use Rattle.osm_base.specs.Place.{Area, area_holds, square_units}
use Rattle.osm_base.specs.declared.keys.Key.{Key}
use Rattle.osm_base.specs.declared.keys.Kind.{Kind}
use Rattle.osm_base.specs.declared.keys.Kind.TheVariants.{Node, Way, Relation}
use Rattle.osm_base.specs.declared.limits.TheConstants.{AREA_LIMIT, MAP_NODE_LIMIT}
use Rattle.osm_element.specs.Elements.{histories, keys_to, keys, refs_of, position}
use Rattle.osm_element.specs.declared.elements.Elements.{Elements}
use Rattle.osm_change.specs.declared.reads.MapFault.{MapFault}
use Rattle.osm_change.specs.declared.reads.MapFault.TheVariants.{TooLarge, TooMany}
use Rattle.osm_change.specs.declared.reads.VersionId.{VersionId}
use Rattle.osm_model.specs.declared.states.State.{State}
use Rattle.osm_model.specs.Past.{past, is_last_shown}
use Rattle.osm_model.specs.Reads.{current_shown}

abbrev pub keys_of : Elements → Kind → List Key
keys_of E kind = keys_to kind (length (histories E kind))

-- it lies in the area, edges included
abbrev pub is_in : Elements → Area → Key → Bool
is_in E a k = option_map_or (area_holds a) (position E k) false

-- one of what it lists is among some
abbrev pub lists_one : Elements → List Key → Key → Bool
lists_one E ks k = list_any (λ x. lists_key ks x) (refs_of E k)

-- one of some lists it
abbrev pub is_listed_by : Elements → List Key → Key → Bool
is_listed_by E ws k = list_any (λ w. lists_key (refs_of E w) k) ws

-- the nodes in the area
abbrev pub nodes_in : Elements → Area → List Key
nodes_in E a = filter (λ k. is_last_shown E k && is_in E a k) (keys_of E Node)

-- those of a kind that list one of some
abbrev pub users_among : Elements → Kind → List Key → List Key
users_among E kind ks = filter (λ k. is_last_shown E k && lists_one E ks k) (keys_of E kind)

abbrev pub ways_over : Elements → Area → List Key
ways_over E a = users_among E Way (nodes_in E a)

-- the nodes in the area, and those that one of these ways lists
abbrev pub nodes_near : Elements → Area → List Key
nodes_near E a = filter (λ k. is_last_shown E k && (is_in E a k || is_listed_by E (ways_over E a) k)) (keys_of E Node)

abbrev pub first_relations : Elements → Area → List Key
first_relations E a = users_among E Relation (nodes_near E a ++ ways_over E a)

abbrev pub is_on_map : Elements → Area → Key → Bool
is_on_map E a k =
    lists_key (nodes_near E a) k
    || (lists_key (ways_over E a) k || (lists_key (first_relations E a) k || lists_key (users_among E Relation (first_relations E a)) k))

-- the area of the box is tested before the number of nodes in it; nodes, then ways, then relations, each by id
abbrev pub map_shown : Elements → Area → Result (List VersionId) MapFault
map_shown E a =
    if nat_lt AREA_LIMIT (square_units a) then Err (TooLarge (square_units a))
    else if nat_lt MAP_NODE_LIMIT (length (nodes_in E a)) then Err (TooMany (length (nodes_in E a)))
    else Ok (map (current_shown E) (filter (is_on_map E a) (keys E)))

abbrev pub map_at : State → Area → ℕ → Result (List VersionId) MapFault
map_at P a t = map_shown (past P t).elements a
