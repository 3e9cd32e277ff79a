-- What a content of an upload lists, by the elements that its names stand for.
use Rattle.std.proofs.Common.{◌≡◌, Bool, ◌||◌, List, [], ◌∷◌, ◌++◌, map, Ok, Err, refl, sym, ap, ◌∙◌}
use Rattle.std.specs.Prelude.{Result, OnOk}
use Rattle.std.specs.List.{list_any}
use Rattle.osm_base.specs.Key.{key_eq, lists_key}
use Rattle.osm_base.specs.declared.keys.Kind.TheVariants as kind
use Rattle.osm_base.specs.declared.keys.Key.{Key}
use Rattle.osm_base.specs.declared.memory.Memory.{Memory}
use Rattle.osm_element.specs.Elements.{key, refs}
use Rattle.osm_element.specs.declared.contents.Content.{Content}
use Rattle.osm_element.specs.declared.contents.Content.TheVariants as content
use Rattle.osm_element.specs.declared.contents.Member.{Member}
use Rattle.osm_change.specs.Keys.{id_of}
use Rattle.osm_change.specs.declared.operations.Name.{Name}
use Rattle.osm_model.specs.Names.{with_ids}

pub nodes_listed : (ks : List Key) (names : List Name) (b : Key) → lists_key (refs (with_ids ks (content.Way names))) b ≡ list_any (λ name. key_eq (key kind.Node (id_of ks name)) b) names
nodes_listed ks [] b = refl
nodes_listed ks (n ∷ ns) b = ap (λ (p : Bool). key_eq (key kind.Node (id_of ks n)) b || p) (nodes_listed ks ns b)

pub members_listed : (ks : List Key) (ms : List (Member Name)) (b : Key) → lists_key (refs (with_ids ks (content.Relation ms))) b ≡ list_any (λ m. key_eq (key m.kind (id_of ks m.name)) b) ms
members_listed ks [] b = refl
members_listed ks (m ∷ ms) b = ap (λ (p : Bool). key_eq (key m.kind (id_of ks m.name)) b || p) (members_listed ks ms b)

-- the same in list order
way_refs : (ks : List Key) (names : List Name) → refs (with_ids ks (content.Way names)) ≡ map (λ name. key kind.Node (id_of ks name)) names
way_refs ks [] = refl
way_refs ks (n ∷ ns) = ap (λ (rs : List Key). key kind.Node (id_of ks n) ∷ rs) (way_refs ks ns)

relation_refs : (ks : List Key) (ms : List (Member Name)) → refs (with_ids ks (content.Relation ms)) ≡ map (λ m. key m.kind (id_of ks m.name)) ms
relation_refs ks [] = refl
relation_refs ks (m ∷ ms) = ap (λ (rs : List Key). key m.kind (id_of ks m.name) ∷ rs) (relation_refs ks ms)

-- the nodes of a way were added to a list
pub nodes_added :
    (r : Result (Unit {0}) Memory) (ks : List Key) (names more : List Name) (c : Content Name) (old new : List Key)
    → more ≡ names
    → c ≡ content.Way names
    → OnOk r (new ≡ old ++ map (λ name. key kind.Node (id_of ks name)) more)
    → OnOk r (new ≡ old ++ refs (with_ids ks c))
nodes_added (Ok u) ks names more c old new same is added =
    added
    ∙ ap (λ (ns : List Name). old ++ map (λ name. key kind.Node (id_of ks name)) ns) same
    ∙ ap (λ (rs : List Key). old ++ rs) (sym (way_refs ks names))
    ∙ ap (λ (x : Content Name). old ++ refs (with_ids ks x)) (sym is)
nodes_added (Err e) ks names more c old new same is added = added

-- and the members of a relation
pub members_added :
    (r : Result (Unit {0}) Memory) (ks : List Key) (members more : List (Member Name)) (c : Content Name) (old new : List Key)
    → more ≡ members
    → c ≡ content.Relation members
    → OnOk r (new ≡ old ++ map (λ m. key m.kind (id_of ks m.name)) more)
    → OnOk r (new ≡ old ++ refs (with_ids ks c))
members_added (Ok u) ks members more c old new same is added =
    added
    ∙ ap (λ (ms : List (Member Name)). old ++ map (λ m. key m.kind (id_of ks m.name)) ms) same
    ∙ ap (λ (rs : List Key). old ++ rs) (sym (relation_refs ks members))
    ∙ ap (λ (x : Content Name). old ++ refs (with_ids ks x)) (sym is)
members_added (Err e) ks members more c old new same is added = added
