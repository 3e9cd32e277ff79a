-- What an element held that is shown.
use Rattle.std.proofs.Common.{◌≡◌, ℕ, Bool, false, ◌&&◌, ◌||◌, List, [], ◌∷◌, map, Option, Some, None, refl, ap}
use Rattle.std.specs.Prelude.{if◌then◌else◌, not, is_some, option_and_then}
use Rattle.std.specs.List.{list_any}
use Rattle.std.specs.Option.{option_map_or}
use Rattle.osm_base.specs.Key.{lists_key}
use Rattle.osm_base.specs.Place.{Area}
use Rattle.osm_base.specs.declared.keys.Kind.TheVariants.{Node}
use Rattle.osm_base.specs.declared.keys.Key.{Key}
use Rattle.osm_element.specs.Elements.{key, key_of_member, current, refs_in, refs_of}
use Rattle.osm_element.specs.declared.contents.Content.{Content}
use Rattle.osm_element.specs.declared.contents.Member.{Member}
use Rattle.osm_element.specs.declared.elements.Elements.{Elements}
use Rattle.osm_element.specs.Version.{Version}
use Rattle.osm_model.specs.Past.{is_last_shown}
use Rattle.osm_model.specs.PastMap.{is_in, lists_one}
use Rattle.osm_model.specs.Reads.{hidden}
use Rattle.attic_reads.specs.Attic.{unmarked_content, held, holds_in, lists_among}

-- whatever a content must be there for is told by the last version, if it is shown
last-passes :
    (q : Option (Content ℕ) → Bool)
    → q None ≡ false
    → (o : Option Version)
    → q (option_and_then unmarked_content o)
    ≡ (is_some (option_and_then (λ (v : Version). v.content) o) && option_map_or (λ (v : Version). not (is_some (hidden false v))) o false) && q (option_and_then (λ (v : Version). v.content) o)
last-passes q never None = never
last-passes q never (Some v) = along v.content v.redaction
  where
    along : (c : Option (Content ℕ)) (r : Option ℕ) → q (if is_some r then None else c) ≡ (is_some c && not (is_some r)) && q c
    along None None = never
    along None (Some m) = never
    along (Some c) None = refl
    along (Some c) (Some m) = never

pub held-in : (E : Elements) (a : Area) (k : Key) → holds_in a (held E k) ≡ is_last_shown E k && is_in E a k
held-in E a k = last-passes (holds_in a) refl (current E k)

pub listed-among : (E : Elements) (ks : List Key) (k : Key) → lists_among ks (held E k) ≡ is_last_shown E k && lists_one E ks k
listed-among E ks k = last-passes (lists_among ks) refl (current E k)

-- what an element listed, if it is shown
pub shown-refs : (E : Elements) (k : Key) → refs_in (held E k) ≡ if is_last_shown E k then refs_of E k else []
shown-refs E k = along (current E k)
  where
    along : (o : Option Version)
        → refs_in (option_and_then unmarked_content o)
        ≡ if is_some (option_and_then (λ (v : Version). v.content) o) && option_map_or (λ (v : Version). not (is_some (hidden false v))) o false then refs_in (option_and_then (λ (v : Version). v.content) o) else []
    along None = refl
    along (Some v) = by_parts v.content v.redaction
      where
        by_parts : (c : Option (Content ℕ)) (r : Option ℕ) → refs_in (if is_some r then None else c) ≡ if is_some c && not (is_some r) then refs_in c else []
        by_parts None None = refl
        by_parts None (Some m) = refl
        by_parts (Some c) None = refl
        by_parts (Some c) (Some m) = refl

-- -- what a content lists, looked up without a list of keys

pub any_node : (ks : List Key) (ids : List ℕ) → list_any (λ x. lists_key ks x) (map (key Node) ids) ≡ list_any (λ id. lists_key ks (key Node id)) ids
any_node ks [] = refl
any_node ks (id ∷ ids) = ap (λ (b : Bool). lists_key ks (key Node id) || b) (any_node ks ids)

pub any_member : (ks : List Key) (ms : List (Member ℕ)) → list_any (λ x. lists_key ks x) (map key_of_member ms) ≡ list_any (λ m. lists_key ks (key_of_member m)) ms
any_member ks [] = refl
any_member ks (m ∷ ms) = ap (λ (b : Bool). lists_key ks (key_of_member m) || b) (any_member ks ms)
