-- What a content lists, looked up without a list of keys.
use Rattle.std.proofs.Common.{◌≡◌, ℕ, ◌||◌, List, [], ◌∷◌, map, refl, ap, Bool}
use Rattle.std.specs.List.{list_any}
use Rattle.osm_base.specs.Key.{key_eq, lists_key}
use Rattle.osm_base.specs.declared.keys.Kind.TheVariants as kind
use Rattle.osm_base.specs.declared.keys.Key.{Key}
use Rattle.osm_element.specs.Elements.{key, key_of_member}
use Rattle.osm_element.specs.declared.contents.Member.{Member}

pub lists_node_mapped : (ids : List ℕ) (k : Key) → lists_key (map (key kind.Node) ids) k ≡ list_any (λ id. key_eq (key kind.Node id) k) ids
lists_node_mapped [] k = refl
lists_node_mapped (id ∷ ids) k = ap (λ (b : Bool). key_eq (key kind.Node id) k || b) (lists_node_mapped ids k)

pub lists_member_mapped : (ms : List (Member ℕ)) (k : Key) → lists_key (map key_of_member ms) k ≡ list_any (λ m. key_eq (key_of_member m) k) ms
lists_member_mapped [] k = refl
lists_member_mapped (m ∷ ms) k = ap (λ (b : Bool). key_eq (key_of_member m) k || b) (lists_member_mapped ms k)
