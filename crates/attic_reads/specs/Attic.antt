-- What the reads of the past rest on.
use Rattle.std.specs.Prelude.{◌≡◌, ◌⊎◌, ◌&&◌, ◌||◌, ℕ, Bool, false, if◌then◌else◌, is_some, List, length, Option, None, option_and_then, Result, Err}
use Rattle.std.specs.List.{list_any}
use Rattle.std.specs.List.Sorted.{IsNonDecreasingBy}
use Rattle.std.specs.Option.{option_map_or}
use Rattle.osm_base.specs.Key.{key_eq, kind_eq, lists_key}
use Rattle.osm_base.specs.Place.{Area, area_holds}
use Rattle.osm_base.specs.declared.keys.Key.{Key}
use Rattle.osm_base.specs.declared.keys.Kind.{Kind}
use Rattle.osm_change.specs.declared.reads.ReadFault.{ReadFault}
use Rattle.osm_change.specs.declared.reads.ReadFault.TheVariants as fault
use Rattle.osm_change.specs.declared.reads.VersionId.{VersionId}
use Rattle.osm_element.specs.Elements.{history, version_in, current, position_in, refs_in}
use Rattle.osm_element.specs.declared.contents.Content.{Content}
use Rattle.osm_element.specs.declared.elements.Elements.{Elements}
use Rattle.osm_element.specs.Version.{Version}
use Rattle.indexed_map.specs.Ever.{has_used}
use Rattle.osm_model.specs.Reads.{unless_hidden}
use Rattle.osm_model.specs.Stamped.{stamp_of}

-- what the definition says, or there was no memory
abbrev pub IsRead : {A : Type 0} → Result A ReadFault → Result A ReadFault → Type 0
IsRead expected result = (result ≡ expected) ⊎ (result ≡ Err fault.Memory)

-- the stamps of each history never go back
abbrev pub AreInOrder : Elements → Type 0
AreInOrder E = (k : Key) → IsNonDecreasingBy stamp_of (history E k)

-- ---- for private clauses

-- a version, if it is visible and not marked
abbrev pub last_shown : Key → ℕ → Version → Result VersionId ReadFault
last_shown k n v = if is_some v.content then unless_hidden k n false v else Err (fault.Gone k n)

-- the last of an element's versions
abbrev pub last_in : Key → List Version → Result VersionId ReadFault
last_in k vs = option_map_or (last_shown k (length vs)) (version_in vs (length vs)) (Err (fault.NotFound k 0))

-- what a version holds, if it isn't marked
abbrev pub unmarked_content : Version → Option (Content ℕ)
unmarked_content v = if is_some v.redaction then None else v.content

-- what an element holds, if its last version isn't marked
abbrev pub held : Elements → Key → Option (Content ℕ)
held E k = option_and_then unmarked_content (current E k)

-- a content lies in an area
abbrev pub holds_in : Area → Option (Content ℕ) → Bool
holds_in a c = option_map_or (area_holds a) (option_and_then position_in c) false

-- a content lists one of some keys
abbrev pub lists_among : List Key → Option (Content ℕ) → Bool
lists_among ks c = list_any (λ x. lists_key ks x) (refs_in c)

-- it is of a kind, and either this one or an element of which some version lists this one
abbrev pub is_candidate : Elements → Kind → Key → Key → Bool
is_candidate E kind b x = kind_eq x.kind kind && (key_eq b x || has_used E x b)
