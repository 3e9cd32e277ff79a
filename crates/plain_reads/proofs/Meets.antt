-- Whether a content lists one of some elements, looked up from either side.
use Rattle.std.proofs.Common.{◌≡◌, ℕ, Bool, true, false, ◌&&◌, ◌||◌, List, [], ◌∷◌, map, refl, sym, ap, ◌∙◌, arith}
use Rattle.std.specs.Prelude.{◌==◌}
use Rattle.std.specs.List.{list_any}
use Rattle.std.proofs.lemmas.Bool.Decides.{nat_tests}
use Rattle.osm_base.specs.Key.{kind_eq, key_eq, lists_key}
use Rattle.osm_base.specs.declared.keys.Kind.{Kind}
use Rattle.osm_base.specs.declared.keys.Kind.TheVariants.{Node}
use Rattle.osm_base.specs.declared.keys.Key.{Key}
use Rattle.osm_element.specs.declared.contents.Member.{Member}
use Rattle.osm_element.specs.Elements.{key, key_of_member}
use Rattle.rising_lists.specs.Ids.{lists_id}

pub none_meets : (ns : List ℕ) → list_any (λ n. false) ns ≡ false
none_meets [] = refl
none_meets (n ∷ ns) = none_meets ns

any_or : (f g : ℕ → Bool) (ns : List ℕ) → list_any (λ n. f n || g n) ns ≡ list_any f ns || list_any g ns
any_or f g [] = refl
any_or f g (n ∷ ns) = ap (λ (b : Bool). (f n || g n) || b) (any_or f g ns) ∙ regroup (f n) (g n) (list_any f ns) (list_any g ns)
  where
    regroup : (a b c d : Bool) → (a || b) || (c || d) ≡ (a || c) || (b || d)
    regroup true b c d = refl
    regroup false true true d = refl
    regroup false true false d = refl
    regroup false false c d = refl

one_key : (e : Bool) (i : ℕ) (ns : List ℕ) → list_any (λ n. e && (i == n)) ns ≡ e && lists_id ns i
one_key true i [] = refl
one_key false i [] = refl
one_key true i (n ∷ ns) = ap (λ (b : Bool). (i == n) || b) (one_key true i ns) ∙ ap (λ (b : Bool). b || lists_id ns i) (turned i n)
  where
    turned : (i n : ℕ) → (i == n) ≡ (n == i)
    turned i n = grind (arith, nat_tests)
one_key false i (n ∷ ns) = one_key false i ns

meets : (ks : List Key) (kind : Kind) (ns : List ℕ) → list_any (λ n. lists_key ks (key kind n)) ns ≡ list_any (λ k. kind_eq k.kind kind && lists_id ns k.id) ks
meets [] kind ns = none_meets ns
meets (k ∷ ks) kind ns =
    any_or (λ n. key_eq k (key kind n)) (λ n. lists_key ks (key kind n)) ns
    ∙ ap (λ (b : Bool). b || list_any (λ n. lists_key ks (key kind n)) ns) (one_key (kind_eq k.kind kind) k.id ns)
    ∙ ap (λ (b : Bool). (kind_eq k.kind kind && lists_id ns k.id) || b) (meets ks kind ns)

nodes-any : (kind : Kind) (ids nodes : List ℕ) → list_any (λ (k : Key). kind_eq k.kind kind && lists_id ids k.id) (map (key Node) nodes) ≡ kind_eq Node kind && list_any (λ node. lists_id ids node) nodes
nodes-any kind ids [] = none (kind_eq Node kind)
  where
    none : (b : Bool) → false ≡ b && false
    none true = refl
    none false = refl
nodes-any kind ids (n ∷ ns) =
    ap (λ (b : Bool). (kind_eq Node kind && lists_id ids n) || b) (nodes-any kind ids ns)
    ∙ share (kind_eq Node kind) (lists_id ids n) (list_any (λ node. lists_id ids node) ns)
  where
    share : (a b c : Bool) → (a && b) || (a && c) ≡ a && (b || c)
    share true b c = refl
    share false b c = refl

pub way_meets : (kind : Kind) (ids nodes : List ℕ) → kind_eq Node kind && list_any (λ node. lists_id ids node) nodes ≡ list_any (λ n. lists_key (map (key Node) nodes) (key kind n)) ids
way_meets kind ids nodes = sym (meets (map (key Node) nodes) kind ids ∙ nodes-any kind ids nodes)

members-any : (kind : Kind) (ids : List ℕ) (members : List (Member ℕ)) → list_any (λ (k : Key). kind_eq k.kind kind && lists_id ids k.id) (map key_of_member members) ≡ list_any (λ member. kind_eq member.kind kind && lists_id ids member.name) members
members-any kind ids [] = refl
members-any kind ids (m ∷ ms) = ap (λ (b : Bool). (kind_eq m.kind kind && lists_id ids m.name) || b) (members-any kind ids ms)

pub relation_meets : (kind : Kind) (ids : List ℕ) (members : List (Member ℕ)) → list_any (λ member. kind_eq member.kind kind && lists_id ids member.name) members ≡ list_any (λ n. lists_key (map key_of_member members) (key kind n)) ids
relation_meets kind ids members = sym (meets (map key_of_member members) kind ids ∙ members-any kind ids members)

pub lists_nodes : (nodes : List ℕ) (id : ℕ) → lists_key (map (key Node) nodes) (key Node id) ≡ list_any (λ n. n == id) nodes
lists_nodes [] id = refl
lists_nodes (n ∷ ns) id = ap (λ (b : Bool). (n == id) || b) (lists_nodes ns id)

pub lists_members : (members : List (Member ℕ)) (id : ℕ) → lists_key (map key_of_member members) (key Node id) ≡ list_any (λ m. key_eq (key_of_member m) (key Node id)) members
lists_members [] id = refl
lists_members (m ∷ ms) id = ap (λ (b : Bool). key_eq (key_of_member m) (key Node id) || b) (lists_members ms id)
