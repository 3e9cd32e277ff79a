-- Tests that answer alike.
use Rattle.std.proofs.Common.{◌≡◌, ℕ, zero, suc, ◌<◌, ◌≤◌, Bool, cond, List, [], ◌∷◌, ◌++◌, refl, sym, ap, ◌∙◌, arith}
use Rattle.std.specs.Prelude.{filter}
use Rattle.std.proofs.lemmas.List.Elements.{filter-append}
use Rattle.rising_lists.specs.Ids.{ids_to}

pub filter_alike : {X : Type 0} (p q : X → Bool) → ((x : X) → p x ≡ q x) → (xs : List X) → filter p xs ≡ filter q xs
filter_alike {X = X} p q each [] = refl
filter_alike {X = X} p q each (x ∷ xs) =
    ap (λ (b : Bool). cond b (x ∷ filter p xs) (filter p xs)) (each x)
    ∙ ap (λ (ys : List X). cond (q x) (x ∷ ys) ys) (filter_alike p q each xs)

-- of the ids up to a number
pub ids_alike : (n : ℕ) (p q : ℕ → Bool) → ((id : ℕ) → 0 < id → id ≤ n → p id ≡ q id) → filter p (ids_to n) ≡ filter q (ids_to n)
ids_alike zero p q each = refl
ids_alike (suc n) p q each =
    filter-append p (ids_to n) (suc n ∷ [])
    ∙ ap (λ (ys : List ℕ). ys ++ filter p (suc n ∷ [])) (ids_alike n p q (λ id some low. each id some (omega (arith, low))))
    ∙ ap (λ (b : Bool). filter q (ids_to n) ++ cond b (suc n ∷ []) []) (each (suc n) (omega arith) (omega arith))
    ∙ sym (filter-append q (ids_to n) (suc n ∷ []))
