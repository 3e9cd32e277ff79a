-- Lists that were sorted, and lost what was never given.
use Rattle.std.proofs.Common.{◌≡◌, ℕ, zero, suc, ◌+◌, ◌<◌, ◌≤◌, Bool, true, false, eqb, ◌&&◌, ◌||◌, List, [], ◌∷◌, refl, sym, ap, ◌∙◌, arith}
use Rattle.std.specs.Prelude.{filter, nat_lt}
use Rattle.std.specs.List.Sorted.{IsStrictlyIncreasing}
use Rattle.std.proofs.lemmas.Bool.{eqb-true}
use Rattle.std.proofs.lemmas.Bool.Decides.{nat_tests}
use Rattle.std.proofs.lemmas.List.Folds.{list_any-append}
use Rattle.std.proofs.lemmas.List.Kept.{IsStrictlyIncreasing-filter}
use Rattle.std.proofs.lemmas.Map.Views.{any-filter_same}
use Rattle.osm_base.specs.Key.{lists_key, IsRising}
use Rattle.osm_base.specs.declared.keys.Key.{Key}
use Rattle.osm_base.proofs.KeyLists.{lists-filter, rising-filter}
use Rattle.osm_element.specs.Elements.{keys}
use Rattle.osm_element.specs.declared.elements.Elements.{Elements}
use Rattle.osm_element.proofs.Used.{filter-are}
use Rattle.rising_lists.specs.Ids.{ids_to, lists_id}

abbrev pub given : ℕ → ℕ → Bool
given n id = nat_lt 0 id && nat_lt id (n + 1)

ids-filter : (p : ℕ → Bool) (xs : List ℕ) (a : ℕ) → lists_id (filter p xs) a ≡ p a && lists_id xs a
ids-filter p xs a = any-filter_same (λ x. eqb x a) p (p a) (λ k same. ap p (eqb-true k a same)) xs

pub lists-ids_to : (n id : ℕ) → lists_id (ids_to n) id ≡ given n id
lists-ids_to zero id = grind (arith, nat_tests)
lists-ids_to (suc n) id =
    list_any-append (λ x. eqb x id) (ids_to n) (suc n ∷ [])
    ∙ ap (λ (b : Bool). b || (eqb (suc n) id || false)) (lists-ids_to n id)
    ∙ one_more n id
  where
    one_more : (n id : ℕ) → given n id || (eqb (suc n) id || false) ≡ given (suc n) id
    one_more n id = grind (arith, nat_tests)

-- which ids up to a number pass
pub lists-passing : (n : ℕ) (p : ℕ → Bool) (id : ℕ) → 0 < id → id ≤ n → lists_id (filter p (ids_to n)) id ≡ p id
lists-passing n p id some within =
    ids-filter p (ids_to n) id ∙ ap (λ (b : Bool). p id && b) (lists-ids_to n id ∙ inside n id some within) ∙ and-true (p id)
  where
    inside : (n id : ℕ) → 0 < id → id ≤ n → given n id ≡ true
    inside n id some within = grind (arith, nat_tests)

    and-true : (b : Bool) → b && true ≡ b
    and-true true = refl
    and-true false = refl

pub given-once :
    (same : (ids others : List ℕ) → IsStrictlyIncreasing ids → IsStrictlyIncreasing others → ((id : ℕ) → lists_id ids id ≡ lists_id others id) → ids ≡ others)
    (rises : (n : ℕ) (p : ℕ → Bool) → IsStrictlyIncreasing (filter p (ids_to n)))
    (n : ℕ) (ids sorted left : List ℕ)
    → IsStrictlyIncreasing sorted
    → ((id : ℕ) → lists_id sorted id ≡ lists_id ids id)
    → left ≡ filter (given n) sorted
    → left ≡ filter (lists_id ids) (ids_to n)
given-once same rises n ids sorted left up listed kept =
    kept
    ∙ same (filter (given n) sorted) (filter (lists_id ids) (ids_to n))
    (IsStrictlyIncreasing-filter (given n) sorted up)
    (rises n (lists_id ids))
    (λ id. ids-filter (given n) sorted id
    ∙ ap (λ (b : Bool). given n id && b) (listed id)
    ∙ and-sym (given n id) (lists_id ids id)
    ∙ ap (λ (b : Bool). lists_id ids id && b) (sym (lists-ids_to n id))
    ∙ sym (ids-filter (lists_id ids) (ids_to n) id))
  where
    and-sym : (p q : Bool) → p && q ≡ q && p
    and-sym true true = refl
    and-sym true false = refl
    and-sym false true = refl
    and-sym false false = refl

pub given-keys-once :
    (E : Elements) (listed sorted left : List Key)
    → IsRising sorted
    → ((k : Key) → lists_key sorted k ≡ lists_key listed k)
    → left ≡ filter (lists_key (keys E)) sorted
    → left ≡ filter (lists_key listed) (keys E)
given-keys-once E listed sorted left up same kept =
    kept
    ∙ filter-are E (lists_key listed) (filter (lists_key (keys E)) sorted)
    (rising-filter sorted (lists_key (keys E)) up)
    (λ a. lists-filter sorted (lists_key (keys E)) a
    ∙ ap (λ (b : Bool). b && lists_key (keys E) a) (same a)
    ∙ and-sym (lists_key listed a) (lists_key (keys E) a))
  where
    and-sym : (p q : Bool) → p && q ≡ q && p
    and-sym true true = refl
    and-sym true false = refl
    and-sym false true = refl
    and-sym false false = refl
