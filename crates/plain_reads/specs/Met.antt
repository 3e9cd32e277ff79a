-- The steps of a map call, from the ids that the step before gave. For private clauses.
use Rattle.std.specs.Prelude.{ℕ, ◌||◌, List, filter}
use Rattle.std.specs.List.{list_any}
use Rattle.osm_base.specs.declared.keys.Kind.TheVariants.{Node, Way, Relation}
use Rattle.osm_element.specs.Elements.{key}
use Rattle.osm_element.specs.declared.elements.Elements.{Elements}
use Rattle.osm_model.specs.Reads.{ids_of}
use Rattle.osm_model.specs.Selection.{lists}
use Rattle.rising_lists.specs.Ids.{lists_id}

-- the ways that list one of these nodes
abbrev pub ways_listing : Elements → List ℕ → List ℕ
ways_listing E nodes = filter (λ w. list_any (λ n. lists E (key Way w) (key Node n)) nodes) (ids_of E Way)

-- these nodes, and those that one of these ways lists
abbrev pub nodes_with_listed : Elements → List ℕ → List ℕ → List ℕ
nodes_with_listed E nodes ways = filter (λ n. lists_id nodes n || list_any (λ w. lists E (key Way w) (key Node n)) ways) (ids_of E Node)

-- the relations that list one of these nodes or ways
abbrev pub relations_listing : Elements → List ℕ → List ℕ → List ℕ
relations_listing E nodes ways =
    filter (λ r. list_any (λ n. lists E (key Relation r) (key Node n)) nodes || list_any (λ w. lists E (key Relation r) (key Way w)) ways)
    (ids_of E Relation)

-- these relations, and those that list one of them
abbrev pub relations_with_listing : Elements → List ℕ → List ℕ
relations_with_listing E first = filter (λ r. lists_id first r || list_any (λ q. lists E (key Relation r) (key Relation q)) first) (ids_of E Relation)
