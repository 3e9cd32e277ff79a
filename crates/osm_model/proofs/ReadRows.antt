-- Worked rows: what reads give on a small map, computed.
use Rattle.std.specs.Prelude.{◌≡◌, refl, ℕ, true, false, List, [], ◌∷◌, Option, Some, None, Ok, Err, pos}
use Rattle.osm_base.specs.Place.{Area}
use Rattle.osm_base.specs.declared.keys.Kind.{Kind}
use Rattle.osm_base.specs.declared.keys.Kind.TheVariants as kind
use Rattle.osm_base.specs.declared.keys.Key.{Key}
use Rattle.osm_element.specs.Elements.{key}
use Rattle.osm_element.specs.declared.contents.Content.{Content}
use Rattle.osm_element.specs.declared.contents.Content.TheVariants.{Node, Way, Relation}
use Rattle.osm_element.specs.declared.elements.Elements.{Elements}
use Rattle.osm_element.specs.Version.{Version}
use Rattle.osm_change.specs.declared.reads.MapFault.TheVariants.{TooLarge}
use Rattle.osm_change.specs.declared.reads.ReadFault.TheVariants.{NotFound, Gone, Redacted}
use Rattle.changeset_core.specs.declared.records.ChangesetRecord.{ChangesetRecord}
use Rattle.osm_model.specs.ChangesetReads.{newest, passes, download}
use Rattle.osm_model.specs.Past.{full_unmarked}
use Rattle.osm_model.specs.Reads.{shown, one, numbered, history_of, many, full, ways_of, relations_of}
use Rattle.osm_model.specs.Selection.{map_of}
use Rattle.osm_model.specs.State.{empty}
use Rattle.osm_model.specs.declared.states.State.{State}

abbrev made : Option ℕ → Option (Content ℕ) → Version
made mark content = record { content = content; tags = []; changeset = 1; stamp = 0; redaction = mark }

abbrev first : Content ℕ → List Version
first content = made None (Some content) ∷ []

abbrev at : ℕ → ℕ → Content ℕ
at lat lon = Node (record { lat7 = pos lat; lon7 = pos lon })

abbrev over : Kind → ℕ → Content ℕ
over kind id = Relation (record { kind = kind; name = id; role = [] } ∷ [])

-- two nodes, a way over them, and three relations, each over what is before it
abbrev small : Elements
small = record {
  nodes = first (at 480000000 110000000) ∷ first (at 490000000 120000000) ∷ [];
  ways = first (Way (1 ∷ 2 ∷ [])) ∷ [];
  relations = first (over kind.Way 1) ∷ first (over kind.Relation 1) ∷ first (over kind.Relation 2) ∷ [];
}

-- half a degree from the first node on, to the north and the east
abbrev around_first : Area
around_first = record { left = pos 110000000; bottom = pos 480000000; right = pos 115000000; top = pos 485000000 }

map_of_a_corner : map_of small around_first ≡ Ok (record { nodes = 1 ∷ 2 ∷ []; ways = 1 ∷ []; relations = 1 ∷ 2 ∷ [] })
map_of_a_corner = refl

map_too_large : map_of small (record around_first { right = pos 115000001 }) ≡ Err (TooLarge 25000005000000)
map_too_large = refl

listed_nodes : many small kind.Node (2 ∷ 1 ∷ 2 ∷ []) ≡ Ok (shown (key kind.Node 1) 1 ∷ shown (key kind.Node 2) 1 ∷ [])
listed_nodes = refl

listed_unknown : many small kind.Node (2 ∷ 9 ∷ 8 ∷ []) ≡ Err (NotFound (key kind.Node 9) 0)
listed_unknown = refl

relation_in_full :
    full small (key kind.Relation 1)
    ≡ Ok (shown (key kind.Node 1) 1 ∷ shown (key kind.Node 2) 1 ∷ shown (key kind.Way 1) 1 ∷ shown (key kind.Relation 1) 1 ∷ [])
relation_in_full = refl

relation_of_a_relation : full small (key kind.Relation 2) ≡ Ok (shown (key kind.Relation 1) 1 ∷ shown (key kind.Relation 2) 1 ∷ [])
relation_of_a_relation = refl

ways_of_a_node : ways_of small 2 ≡ shown (key kind.Way 1) 1 ∷ []
ways_of_a_node = refl

ways_of_nothing : ways_of small 9 ≡ []
ways_of_nothing = refl

relations_of_a_way : relations_of small (key kind.Way 1) ≡ shown (key kind.Relation 1) 1 ∷ []
relations_of_a_way = refl

-- a way that is marked is hidden with what it lists
abbrev way_marked : Elements
way_marked = record small { ways = (made (Some 1) (Some (Way (1 ∷ 2 ∷ []))) ∷ []) ∷ [] }

unmarked_way_in_full : full_unmarked small (key kind.Relation 1) ≡ full small (key kind.Relation 1)
unmarked_way_in_full = refl

marked_way_in_full : full_unmarked way_marked (key kind.Relation 1) ≡ Ok (shown (key kind.Relation 1) 1 ∷ [])
marked_way_in_full = refl

-- a node with a mark on its first version, that was deleted at last
abbrev marked : Elements
marked = record { nodes = (made (Some 1) (Some (at 1 2)) ∷ made None (Some (at 5 6)) ∷ made None None ∷ []) ∷ []; ways = []; relations = [] }

abbrev node : Key
node = key kind.Node 1

deleted : one marked node ≡ Err (Gone node 3)
deleted = refl

hidden_version : numbered marked node 1 false ≡ Err (Redacted node 1 1)
hidden_version = refl

shown_version : numbered marked node 1 true ≡ Ok (shown node 1)
shown_version = refl

no_such_version : numbered marked node 4 true ≡ Err (NotFound node 4)
no_such_version = refl

hidden_history : history_of marked node false ≡ Ok (shown node 2 ∷ shown node 3 ∷ [])
hidden_history = refl

shown_history : history_of marked node true ≡ Ok (shown node 1 ∷ shown node 2 ∷ shown node 3 ∷ [])
shown_history = refl

-- two changesets, of which the second made the node, and touched a box that ends where the corner begins
abbrev opened : ℕ → Option Area → ChangesetRecord
opened user touched = record {
  owner = record { id = user; name = [] };
  tags = [];
  created = 0;
  activity = 0;
  ended = None;
  limit = 10000;
  touched = touched;
  did = record { key = node; version = 1 } ∷ record { key = node; version = 3 } ∷ [];
}

abbrev two : State
two = record empty {
  elements = marked;
  changesets = opened 1 None ∷ opened 1 (Some (record { left = pos 0; bottom = pos 0; right = pos 110000000; top = pos 480000000 })) ∷ [];
}

newest_first : newest two (passes (Some 1) true false None 3599) ≡ 2 ∷ 1 ∷ []
newest_first = refl

closed_ones : newest two (passes None true false None 3600) ≡ []
closed_ones = refl

box_that_meets_at_an_edge : newest two (passes None false true (Some around_first) 3600) ≡ 2 ∷ []
box_that_meets_at_an_edge = refl

unmarked_ones : download two 2 ≡ Ok (shown node 3 ∷ [])
unmarked_ones = refl
