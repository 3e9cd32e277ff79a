-- The cells after a version of a node.
use Rattle.std.proofs.Common.{◌≡◌, ℕ, ◌+◌, ◌<◌, ◌≤◌, Bool, true, false, ◌&&◌, ⊎_elim, List, Option, Some, refl, sym, ap, ◌∙◌, arith}
use Rattle.std.specs.Prelude.{◌==◌, option_and_then, if◌then◌else◌}
use Rattle.std.proofs.lemmas.Bool.Decides.{nat_tests}
use Rattle.std.proofs.lemmas.Bool.{cases_Bool, eqb-true, eq-eqb, and_from}
use Rattle.osm_base.specs.Place.{Position}
use Rattle.osm_base.specs.Key.{kind_eq, key_eq}
use Rattle.osm_base.specs.declared.keys.Kind.{Kind}
use Rattle.osm_base.specs.declared.keys.Kind.TheVariants.{Node}
use Rattle.osm_base.specs.declared.keys.Key.{Key}
use Rattle.osm_base.proofs.KeyOrder.{kind_eq-same, key_eq-same}
use Rattle.osm_element.specs.Version.{Version}
use Rattle.osm_element.specs.declared.elements.Elements.{Elements}
use Rattle.osm_element.specs.Elements.{key, next_id, content_of, position, position_in, push_version}
use Rattle.osm_element.proofs.Pushed.{content-push}
use Rattle.tile_grid.specs.declared.cells.Cell.{Cell}
use Rattle.tile_grid.specs.Cell.{cell_of}
use Rattle.tile_grid.specs.Tile.{Held}
use Rattle.tile_grid.specs.Grid.{times}
use Rattle.indexed_map.specs.Placed.{lies, lies_in, share_cell, IsPlaced}
use Rattle.indexed_map.proofs.Together.{together}

-- a node is in the cell of its position
pub placed : (n : ℕ) (p : Position) → n ≡ (if lies (cell_of p) (Some p) then 1 else 0) → 0 < n
placed n p e =
    let here : lies (cell_of p) (Some p) ≡ true = and_from _ _ (eq-eqb (cell_of p).row (cell_of p).row refl) (eq-eqb (cell_of p).column (cell_of p).column refl) in
    let one : n ≡ 1 = e ∙ ap (λ (b : Bool). if b then 1 else 0) here in
    omega (arith, one)

-- a node stands once in the cell in which it lies, and in no other
pub stood_once :
    (E : Elements) (g : List (List Held)) (k : Key) (from : Option Position)
    → kind_eq k.kind Node ≡ true
    → IsPlaced E g
    → from ≡ position E k
    → (c : Cell)
    → times g c k.id ≡ (if lies c from then 1 else 0)
stood_once E g k from is_node cells from_is c =
    let node : key Node k.id ≡ k = ap (λ (kind : Kind). key kind k.id) (sym (kind_eq-same k.kind Node is_node)) in
    cells.holds c k.id ∙ ap (λ (o : Option Position). if lies c o then 1 else 0) (ap (position E) node ∙ sym from_is)

position-push :
    (E : Elements) (k a : Key) (v : Version)
    → 0 < k.id
    → k.id ≤ next_id E k.kind
    → position (push_version E k v) a ≡ if key_eq a k then option_and_then position_in v.content else position E a
position-push E k a v counted reached =
    ap (option_and_then position_in) (content-push E k a v counted reached)
    ∙ ⊎_elim
    (λ t. ap (λ (b : Bool). option_and_then position_in (if b then v.content else content_of E a)) t ∙ sym (ap (λ (b : Bool). if b then option_and_then position_in v.content else position E a) t))
    (λ f. ap (λ (b : Bool). option_and_then position_in (if b then v.content else content_of E a)) f ∙ sym (ap (λ (b : Bool). if b then option_and_then position_in v.content else position E a) f))
    (cases_Bool (key_eq a k))

pub moved :
    (E : Elements) (g₀ g₁ g₂ : List (List Held)) (k : Key) (v : Version) (from to : Option Position)
    → kind_eq k.kind Node ≡ true
    → 0 < k.id
    → k.id ≤ next_id E k.kind
    → IsPlaced E g₀
    → from ≡ position E k
    → to ≡ option_and_then position_in v.content
    → ((c : Cell) (n : ℕ) → times g₁ c n + (if lies c from && (n == k.id) then 1 else 0) ≡ times g₀ c n)
    → ((c : Cell) (n : ℕ) → times g₂ c n ≡ times g₁ c n + (if lies c to && (n == k.id) then 1 else 0))
    → IsPlaced (push_version E k v) g₂
moved E g₀ g₁ g₂ k v from to is_node counted reached cells from_is to_is left entered = record { holds = holds }
  where
    kinds : k.kind ≡ Node
    kinds = kind_eq-same k.kind Node is_node

    new : (c : Cell) (n : ℕ) → lies_in (push_version E k v) c n ≡ lies c (if key_eq (key Node n) k then option_and_then position_in v.content else position E (key Node n))
    new c n = ap (lies c) (position-push E k (key Node n) v counted reached)

    same_key : (n : ℕ) → key_eq (key Node n) k ≡ (n == k.id)
    same_key n = ap (λ (kind : Kind). kind_eq Node kind && (n == k.id)) kinds

    and-true : (b : Bool) → b && true ≡ b
    and-true true = refl
    and-true false = refl

    and-false : (b : Bool) → b && false ≡ false
    and-false true = refl
    and-false false = refl

    ones : Bool → ℕ
    ones b = if b then 1 else 0

    holds : (c : Cell) (n : ℕ) → times g₂ c n ≡ ones (lies_in (push_version E k v) c n)
    holds c n =
        ⊎_elim
        (λ yes. let id : n ≡ k.id = eqb-true n k.id yes in
        let here : key_eq (key Node n) k ≡ true = same_key n ∙ yes in
        let node : key Node n ≡ k = ap (λ (m : ℕ). key Node m) id ∙ ap (λ (kind : Kind). key kind k.id) (sym kinds) in
        let was : times g₀ c n ≡ ones (lies c from) = cells.holds c n ∙ ap (λ (o : Option Position). ones (lies c o)) (ap (position E) node ∙ sym from_is) in
        let gone : ones (lies c from && (n == k.id)) ≡ ones (lies c from) = ap (λ (b : Bool). ones (lies c from && b)) yes ∙ ap ones (and-true (lies c from)) in
        let come : ones (lies c to && (n == k.id)) ≡ ones (lies c to) = ap (λ (b : Bool). ones (lies c to && b)) yes ∙ ap ones (and-true (lies c to)) in
        let none : times g₁ c n ≡ 0 = omega (arith, left c n, was, gone) in
        let now : times g₂ c n ≡ ones (lies c to) = omega (arith, entered c n, come, none) in
        now
        ∙ ap (λ (o : Option Position). ones (lies c o)) to_is
        ∙ sym (ap ones (new c n) ∙ ap (λ (b : Bool). ones (lies c (if b then option_and_then position_in v.content else position E (key Node n)))) here))
        (λ no. let other : key_eq (key Node n) k ≡ false = same_key n ∙ no in
        let gone : ones (lies c from && (n == k.id)) ≡ 0 = ap (λ (b : Bool). ones (lies c from && b)) no ∙ ap ones (and-false (lies c from)) in
        let come : ones (lies c to && (n == k.id)) ≡ 0 = ap (λ (b : Bool). ones (lies c to && b)) no ∙ ap ones (and-false (lies c to)) in
        let now : times g₂ c n ≡ times g₀ c n = omega (arith, entered c n, left c n, gone, come) in
        now
        ∙ cells.holds c n
        ∙ sym (ap ones (new c n) ∙ ap (λ (b : Bool). ones (lies c (if b then option_and_then position_in v.content else position E (key Node n)))) other))
        (cases_Bool (n == k.id))

-- ways and relations lie in no cell
pub not_moved :
    (E : Elements) (g : List (List Held)) (k : Key) (v : Version)
    → kind_eq k.kind Node ≡ false
    → 0 < k.id
    → k.id ≤ next_id E k.kind
    → IsPlaced E g
    → IsPlaced (push_version E k v) g
not_moved E g k v other counted reached placed = record {
  holds = λ c n. placed.holds c n ∙ sym (ap (λ (at : Option Position). if lies c at then 1 else 0) (same n));
}
  where
    turned : (a b : Kind) → kind_eq a b ≡ kind_eq b a
    turned a b = grind (arith, nat_tests)

    apart : (n : ℕ) → key_eq (key Node n) k ≡ false
    apart n = ap (λ (b : Bool). b && (n == k.id)) (turned Node k.kind ∙ other)

    same : (n : ℕ) → position (push_version E k v) (key Node n) ≡ position E (key Node n)
    same n = position-push E k (key Node n) v counted reached ∙ ap (λ (b : Bool). if b then option_and_then position_in v.content else position E (key Node n)) (apart n)

-- a node that stays in its cell
pub stayed :
    (E : Elements) (g : List (List Held)) (k : Key) (v : Version) (from to : Option Position)
    → 0 < k.id
    → k.id ≤ next_id E k.kind
    → IsPlaced E g
    → from ≡ position E k
    → to ≡ option_and_then position_in v.content
    → share_cell from to ≡ true
    → IsPlaced (push_version E k v) g
stayed E g k v from to counted reached placed from_is to_is shared = record {
  holds = λ c n. placed.holds c n ∙ sym (ap (λ (b : Bool). if b then 1 else 0) (ap (lies c) (position-push E k (key Node n) v counted reached) ∙ along c n (key_eq (key Node n) k) refl));
}
  where
    along : (c : Cell) (n : ℕ) (b : Bool) → key_eq (key Node n) k ≡ b → lies c (if b then option_and_then position_in v.content else position E (key Node n)) ≡ lies_in E c n
    along c n true here =
        ap (lies c) (sym to_is)
        ∙ sym (together from to shared c)
        ∙ ap (lies c) (from_is ∙ ap (position E) (sym (key_eq-same (key Node n) k here)))
    along c n false here = refl
