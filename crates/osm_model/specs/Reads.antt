-- Reading elements (wiki, API v0.6, "Elements"): which versions a read shows, or why it shows none.
use Rattle.std.specs.Prelude.{ℕ, Bool, false, not, ◌==◌, ◌&&◌, ◌||◌, if◌then◌else◌, List, [], map, filter, length, slice_get, Option, None, is_some, Result, Ok, Err}
use Rattle.std.specs.List.{list_any}
use Rattle.std.specs.Option.{option_map_or}
use Rattle.osm_base.specs.Key.{kind_eq, key_eq, lists_key}
use Rattle.osm_base.specs.Outcome.{◌>>=◌, refuse_if}
use Rattle.osm_base.specs.declared.keys.Kind.{Kind}
use Rattle.osm_base.specs.declared.keys.Kind.TheVariants as kind
use Rattle.osm_base.specs.declared.keys.Key.{Key}
use Rattle.osm_element.specs.Elements.{key, histories, count, version, is_visible, keys, refs_of, users}
use Rattle.osm_element.specs.declared.elements.Elements.{Elements}
use Rattle.osm_element.specs.Version.{Version}
use Rattle.osm_change.specs.declared.reads.VersionId.{VersionId}
use Rattle.osm_change.specs.declared.reads.ReadFault.{ReadFault}
use Rattle.osm_change.specs.declared.reads.ReadFault.TheVariants as fault
use Rattle.rising_lists.specs.Ids.{ids_to, lists_id}

abbrev pub shown : Key → ℕ → VersionId
shown k n = record { key = k; number = n }

-- an element as it is now
abbrev pub current_shown : Elements → Key → VersionId
current_shown E k = shown k (count E k)

-- the ids of a kind, in order
abbrev pub ids_of : Elements → Kind → List ℕ
ids_of E kind = ids_to (length (histories E kind))

-- an element that never existed has no version
abbrev pub begun : Elements → Key → Result (Unit {0}) ReadFault
begun E k = refuse_if (count E k == 0) (fault.NotFound k 0)

-- ---- one element

-- the current version, of an element that isn't deleted
abbrev pub one : Elements → Key → Result VersionId ReadFault
one E k =
    begun E k
    >>= λ there. refuse_if (not (is_visible E k)) (fault.Gone k (count E k))
    >>= λ seen. Ok (current_shown E k)

-- the mark that hides a version from all but those who may see everything
abbrev pub hidden : Bool → Version → Option ℕ
hidden show v = if show then None else v.redaction

abbrev pub unless_hidden : Key → ℕ → Bool → Version → Result VersionId ReadFault
unless_hidden k n show v = option_map_or (λ r. Err (fault.Redacted k n r)) (hidden show v) (Ok (shown k n))

-- a version, that of a deletion too
abbrev pub numbered : Elements → Key → ℕ → Bool → Result VersionId ReadFault
numbered E k n show = begun E k >>= λ there. option_map_or (unless_hidden k n show) (version E k n) (Err (fault.NotFound k n))

abbrev pub is_shown : Elements → Key → Bool → ℕ → Bool
is_shown E k show n = option_map_or (λ v. not (is_some (hidden show v))) (version E k n) false

-- all versions in order, without those that are hidden
abbrev pub history_of : Elements → Key → Bool → Result (List VersionId) ReadFault
history_of E k show = begun E k >>= λ there. Ok (map (shown k) (filter (is_shown E k show) (ids_to (count E k))))

-- ---- many elements

-- the first of the list that never existed
abbrev pub first_unknown : Elements → Kind → List ℕ → Option ℕ
first_unknown E kind ids = slice_get (filter (λ id. count E (key kind id) == 0) ids) 0

-- those that are listed: by id, each once, deleted ones too
abbrev pub listed_of : Elements → Kind → List ℕ → List VersionId
listed_of E kind ids = map (λ id. current_shown E (key kind id)) (filter (lists_id ids) (ids_of E kind))

abbrev pub many : Elements → Kind → List ℕ → Result (List VersionId) ReadFault
many E kind ids = option_map_or (λ id. Err (fault.NotFound (key kind id) 0)) (first_unknown E kind ids) (Ok (listed_of E kind ids))

-- ---- an element with what it lists

abbrev pub is_way : Key → Bool
is_way k = kind_eq k.kind kind.Way

-- one of the ways that an element lists, lists the key
abbrev pub way_lists : Elements → Key → Key → Bool
way_lists E k x = list_any (λ w. is_way w && lists_key (refs_of E w) x) (refs_of E k)

-- what a way lists, and nothing for another element
abbrev pub way_refs : Elements → Key → List Key
way_refs E k = if is_way k then refs_of E k else []

-- itself, what it lists, and the nodes of the ways that it lists
abbrev pub in_full : Elements → Key → Key → Bool
in_full E k x = key_eq x k || (lists_key (refs_of E k) x || way_lists E k x)

abbrev pub full : Elements → Key → Result (List VersionId) ReadFault
full E k = one E k >>= λ itself. Ok (map (current_shown E) (filter (in_full E k) (keys E)))

-- ---- the elements that list an element, none of one that never existed

abbrev pub users_of_kind : Elements → Kind → Key → List VersionId
users_of_kind E kind k = map (current_shown E) (filter (λ a. kind_eq a.kind kind) (users E k))

abbrev pub ways_of : Elements → ℕ → List VersionId
ways_of E id = users_of_kind E kind.Way (key kind.Node id)

abbrev pub relations_of : Elements → Key → List VersionId
relations_of E k = users_of_kind E kind.Relation k
