-- The first of a list that passes a test.
use Rattle.std.proofs.Common.{◌≡◌, ℕ, ◌+◌, ◌<◌, Bool, true, false, cond, List, [], ◌∷◌, ◌++◌, length, get_or, take, drop, Some, sym, ap, ◌∙◌}
use Rattle.std.specs.Prelude.{filter, slice_get}
use Rattle.std.proofs.lemmas.List.{take_more, take-append-drop}
use Rattle.std.proofs.lemmas.List.Elements.{filter-append}

one_more : {X : Type 0} (p : X → Bool) (xs : List X) (i : ℕ) (d : X) → i < length xs → filter p (take i xs) ≡ [] → filter p (take (i + 1) xs) ≡ filter p (get_or xs i d ∷ [])
one_more {X = X} p xs i d within none =
    ap (filter p) (take_more xs i d within)
    ∙ filter-append p (take i xs) (get_or xs i d ∷ [])
    ∙ ap (λ (ys : List X). ys ++ filter p (get_or xs i d ∷ [])) none

-- one more that doesn't pass
pub none_more : {X : Type 0} (p : X → Bool) (xs : List X) (i : ℕ) (d : X) → i < length xs → filter p (take i xs) ≡ [] → p (get_or xs i d) ≡ false → filter p (take (i + 1) xs) ≡ []
none_more p xs i d within none fails =
    one_more p xs i d within none ∙ ap (λ (b : Bool). cond b (get_or xs i d ∷ []) []) fails

-- the first that passes
pub first_found : {X : Type 0} (p : X → Bool) (xs : List X) (i : ℕ) (d : X) → i < length xs → filter p (take i xs) ≡ [] → p (get_or xs i d) ≡ true → slice_get (filter p xs) 0 ≡ Some (get_or xs i d)
first_found {X = X} p xs i d within none holds =
    ap (λ (ys : List X). slice_get (filter p ys) 0) (sym (take-append-drop (i + 1) xs))
    ∙ ap (λ (ys : List X). slice_get ys 0) (filter-append p (take (i + 1) xs) (drop (i + 1) xs))
    ∙ ap (λ (ys : List X). slice_get (ys ++ filter p (drop (i + 1) xs)) 0)
    (one_more p xs i d within none ∙ ap (λ (b : Bool). cond b (get_or xs i d ∷ []) []) holds)

-- none passes
pub none_found : {X : Type 0} (p : X → Bool) (xs : List X) → filter p xs ≡ [] → slice_get (filter p xs) 0 ≡ slice_get {X = X} [] 0
none_found {X = X} p xs none = ap (λ (ys : List X). slice_get ys 0) none
