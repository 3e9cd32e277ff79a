-- Tests of lists that say the same, and what passes two of them.
use Rattle.std.proofs.Common.{◌≡◌, Bool, true, false, ◌&&◌, cond, List, [], ◌∷◌, refl, ap, ◌∙◌}
use Rattle.std.specs.Prelude.{filter}

pub passing_alike : {X : Type 0} (p q : X → Bool) → ((x : X) → p x ≡ q x) → (xs : List X) → filter p xs ≡ filter q xs
passing_alike p q same [] = refl
passing_alike {X = X} p q same (x ∷ xs) =
    ap (λ (b : Bool). cond b (x ∷ filter p xs) (filter p xs)) (same x)
    ∙ ap (λ (l : List X). cond (q x) (x ∷ l) l) (passing_alike p q same xs)

passing_both : {X : Type 0} (p q : X → Bool) (xs : List X) → filter q (filter p xs) ≡ filter (λ x. p x && q x) xs
passing_both p q [] = refl
passing_both {X = X} p q (x ∷ xs) = by_first (p x) (passing_both p q xs)
  where
    by_first : (b : Bool) → filter q (filter p xs) ≡ filter (λ y. p y && q y) xs → filter q (cond b (x ∷ filter p xs) (filter p xs)) ≡ cond (b && q x) (x ∷ filter (λ y. p y && q y) xs) (filter (λ y. p y && q y) xs)
    by_first true same = ap (λ (l : List X). cond (q x) (x ∷ l) l) same
    by_first false same = same

-- what passes a test, and another test of those that passed
pub passing_two :
    {X : Type 0} (p q r : X → Bool)
    → ((x : X) → p x ≡ r x)
    → (xs : List X)
    → filter q (filter p xs) ≡ filter (λ x. r x && q x) xs
passing_two p q r same xs =
    passing_both p q xs ∙ passing_alike (λ x. p x && q x) (λ x. r x && q x) (λ x. ap (λ (b : Bool). b && q x) (same x)) xs
