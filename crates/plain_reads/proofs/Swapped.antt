-- Two lists of keys have one in common: looked up from either side.
use Rattle.std.proofs.Common.{◌≡◌, Bool, true, false, ◌||◌, List, [], ◌∷◌, refl, ap, ◌∙◌, sym}
use Rattle.std.specs.List.{list_any}
use Rattle.osm_base.specs.Key.{key_eq, lists_key}
use Rattle.osm_base.specs.declared.keys.Key.{Key}
use Rattle.osm_base.proofs.KeyOrder.{key_eq-sym}
use Rattle.osm_element.specs.Elements.{refs_of}
use Rattle.osm_element.specs.declared.elements.Elements.{Elements}
use Rattle.osm_model.specs.PastMap.{lists_one}

none : (rs : List Key) → list_any (λ r. lists_key [] r) rs ≡ false
none [] = refl
none (r ∷ rs) = none rs

crossed : (p q s t : Bool) → (p || q) || (s || t) ≡ (p || s) || (q || t)
crossed true q s t = refl
crossed false true true t = refl
crossed false true false t = refl
crossed false false s t = refl

one_more : (k : Key) (ks rs : List Key) → list_any (λ r. lists_key (k ∷ ks) r) rs ≡ lists_key rs k || list_any (λ r. lists_key ks r) rs
one_more k ks [] = refl
one_more k ks (r ∷ rs) =
    ap (λ (b : Bool). (key_eq k r || lists_key ks r) || b) (one_more k ks rs)
    ∙ ap (λ (b : Bool). (b || lists_key ks r) || (lists_key rs k || list_any (λ x. lists_key ks x) rs)) (key_eq-sym k r)
    ∙ crossed (key_eq r k) (lists_key ks r) (lists_key rs k) (list_any (λ x. lists_key ks x) rs)

swapped : (ks rs : List Key) → list_any (λ k. lists_key rs k) ks ≡ list_any (λ r. lists_key ks r) rs
swapped [] rs = sym (none rs)
swapped (k ∷ ks) rs = ap (λ (b : Bool). lists_key rs k || b) (swapped ks rs) ∙ sym (one_more k ks rs)

pub lists_one_swapped : (E : Elements) (ks : List Key) (k : Key) → list_any (λ x. lists_key (refs_of E k) x) ks ≡ lists_one E ks k
lists_one_swapped E ks k = swapped ks (refs_of E k)
