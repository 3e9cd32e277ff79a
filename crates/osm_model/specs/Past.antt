-- The map as it was at a stamp: what had been made by then, with the marks that versions bear now.
use Rattle.std.specs.Prelude.{ℕ, Bool, false, nat_le, ◌&&◌, ◌||◌, if◌then◌else◌, List, [], ◌∷◌, map, filter, None, Result, Ok}
use Rattle.std.specs.List.{list_any}
use Rattle.osm_base.specs.Key.{key_eq, lists_key}
use Rattle.osm_base.specs.Outcome.{◌>>=◌}
use Rattle.osm_base.specs.declared.keys.Key.{Key}
use Rattle.osm_element.specs.Elements.{count, is_visible, keys, refs_of}
use Rattle.osm_element.specs.declared.elements.Elements.{Elements}
use Rattle.osm_element.specs.Version.{Version}
use Rattle.osm_change.specs.declared.reads.ReadFault.{ReadFault}
use Rattle.osm_change.specs.declared.reads.VersionId.{VersionId}
use Rattle.osm_model.specs.declared.commands.Entry.{Entry}
use Rattle.osm_model.specs.declared.states.State.{State}
use Rattle.osm_model.specs.Reads.{current_shown, one, numbered, is_shown, is_way, way_refs}

-- ---- what there was

abbrev pub was_made : ℕ → Version → Bool
was_made t v = nat_le v.stamp t

-- the versions of a history with a stamp of t at most
abbrev pub made_by : ℕ → List Version → List Version
made_by t vs = filter (was_made t) vs

-- A history before the later ones of its kind. Ids go by place, so a history without versions is
-- left out where no other follows.
abbrev pub before_others : List Version → List (List Version) → List (List Version)
before_others [] [] = []
before_others [] (h ∷ hs) = [] ∷ h ∷ hs
before_others (v ∷ vs) hs = (v ∷ vs) ∷ hs

abbrev pub histories_by : ℕ → List (List Version) → List (List Version)
histories_by t [] = []
histories_by t (h ∷ hs) = before_others (made_by t h) (histories_by t hs)

abbrev pub elements_by : ℕ → Elements → Elements
elements_by t E = record {
  nodes = histories_by t E.nodes;
  ways = histories_by t E.ways;
  relations = histories_by t E.relations;
}

-- the map with its elements as they were: changesets, redactions and marks are those of now
abbrev pub past : State → ℕ → State
past P t = record P { elements = elements_by t P.elements }

-- the entries with a stamp of t at most
abbrev pub entries_by : ℕ → List Entry → List Entry
entries_by t es = filter (λ e. nat_le e.stamp t) es

-- ---- marks aside

abbrev pub unmarked : Version → Version
unmarked v = record v { redaction = None }

abbrev pub without_marks_in : List (List Version) → List (List Version)
without_marks_in hs = map (map unmarked) hs

abbrev pub without_marks : Elements → Elements
without_marks E = record {
  nodes = without_marks_in E.nodes;
  ways = without_marks_in E.ways;
  relations = without_marks_in E.relations;
}

-- ---- what is shown of it

-- its last version is visible and not marked
abbrev pub is_last_shown : Elements → Key → Bool
is_last_shown E k = is_visible E k && is_shown E k false (count E k)

-- as a read of an element, but the last version is hidden where it is marked
abbrev pub one_unmarked : Elements → Key → Result VersionId ReadFault
one_unmarked E k = one E k >>= λ itself. numbered E k (count E k) false

-- what a way that is shown lists, and nothing for another element
abbrev pub shown_way_refs : Elements → Key → List Key
shown_way_refs E k = if is_last_shown E k then way_refs E k else []

-- one of the ways that an element lists, and that are shown, lists the key
abbrev pub shown_way_lists : Elements → Key → Key → Bool
shown_way_lists E k x = list_any (λ w. is_last_shown E w && (is_way w && lists_key (refs_of E w) x)) (refs_of E k)

-- itself, what it lists, and the nodes of those ways that it lists that are shown
abbrev pub in_full_unmarked : Elements → Key → Key → Bool
in_full_unmarked E k x = key_eq x k || (lists_key (refs_of E k) x || shown_way_lists E k x)

-- Those of them that are shown. A way with a mark is hidden with what it lists.
abbrev pub full_unmarked : Elements → Key → Result (List VersionId) ReadFault
full_unmarked E k = one_unmarked E k >>= λ itself. Ok (map (current_shown E) (filter (λ x. in_full_unmarked E k x && is_last_shown E x) (keys E)))

abbrev pub one_at : State → Key → ℕ → Result VersionId ReadFault
one_at P k t = one_unmarked (past P t).elements k

abbrev pub full_at : State → Key → ℕ → Result (List VersionId) ReadFault
full_at P k t = full_unmarked (past P t).elements k
