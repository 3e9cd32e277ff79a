-- Whether one of a list passes a test.
use Rattle.std.proofs.Common.{◌≡◌, ℕ, Bool, true, false, ◌&&◌, ◌||◌, ◌⊎◌, ⊎_elim, List, [], ◌∷◌, refl, sym, ap, ◌∙◌}
use Rattle.std.specs.Prelude.{not, ◌==◌}
use Rattle.std.specs.List.{list_any}
use Rattle.std.proofs.lemmas.Bool.{or_cases, false≢true, cases_Bool, eqb-true, eq-eqb}
use Rattle.rising_lists.specs.Ids.{lists_id}

pub iff : (p q : Bool) → (p ≡ true → q ≡ true) → (q ≡ true → p ≡ true) → p ≡ q
iff true q f g = sym (f refl)
iff false true f g = g refl
iff false false f g = refl

or-left : (a b : Bool) → a ≡ true → (a || b) ≡ true
or-left true b h = refl
or-left false b h = absurd (false≢true h)

or-right : (a b : Bool) → b ≡ true → (a || b) ≡ true
or-right true b h = refl
or-right false b h = h

pub any_alike : {X : Type 0} (f g : X → Bool) → ((x : X) → f x ≡ g x) → (xs : List X) → list_any f xs ≡ list_any g xs
any_alike f g each [] = refl
any_alike f g each (x ∷ xs) = ap (λ (b : Bool). b || list_any f xs) (each x) ∙ ap (λ (b : Bool). g x || b) (any_alike f g each xs)

-- one that is listed and passes
listed_any : (f : ℕ → Bool) (xs : List ℕ) (x : ℕ) → lists_id xs x ≡ true → f x ≡ true → list_any f xs ≡ true
listed_any f [] x there passes = absurd (false≢true there)
listed_any f (y ∷ ys) x there passes =
    ⊎_elim
    (λ here. or-left (f y) (list_any f ys) (ap f (eqb-true y x here) ∙ passes))
    (λ later. or-right (f y) (list_any f ys) (listed_any f ys x later passes))
    (or_cases (y == x) (lists_id ys x) there)

-- what each that is listed and passes shows
pub any_shows : {R : Type 0} (f : ℕ → Bool) (xs : List ℕ) → ((x : ℕ) → lists_id xs x ≡ true → f x ≡ true → R) → list_any f xs ≡ true → R
any_shows f [] each some = absurd (false≢true some)
any_shows f (x ∷ xs) each some =
    ⊎_elim
    (λ here. each x (or-left (x == x) (lists_id xs x) (eq-eqb x x refl)) here)
    (λ later. any_shows f xs (λ n there. each n (or-right (x == n) (lists_id xs n) there)) later)
    (or_cases (f x) (list_any f xs) some)

-- of all that two lists list, one passes in the first, or in the second and isn't in the first
pub any_split :
    (f : ℕ → Bool) (base listed all : List ℕ)
    → ((n : ℕ) → lists_id all n ≡ lists_id base n || lists_id listed n)
    → list_any f base || list_any (λ n. not (lists_id base n) && f n) listed ≡ list_any f all
any_split f base listed all same =
    iff either (list_any f all)
    (λ some. ⊎_elim
    (λ here. any_shows f base (λ n there passes. listed_any f all n (same n ∙ or-left (lists_id base n) (lists_id listed n) there) passes) here)
    (λ later. any_shows new listed (λ n there passes. listed_any f all n (same n ∙ or-right (lists_id base n) (lists_id listed n) there) (second (not (lists_id base n)) (f n) passes)) later)
    (or_cases (list_any f base) (list_any new listed) some))
    (λ some. any_shows f all (λ n there passes. found n (sym (same n) ∙ there) passes (cases_Bool (lists_id base n))) some)
  where
    new : ℕ → Bool
    new n = not (lists_id base n) && f n

    either : Bool
    either = list_any f base || list_any new listed

    second : (a b : Bool) → (a && b) ≡ true → b ≡ true
    second true b h = h
    second false b h = absurd (false≢true h)

    found : (n : ℕ) → (lists_id base n || lists_id listed n) ≡ true → f n ≡ true → (lists_id base n ≡ true) ⊎ (lists_id base n ≡ false) → either ≡ true
    found n there passes cases =
        ⊎_elim
        (λ t. or-left (list_any f base) (list_any new listed) (listed_any f base n t passes))
        (λ no. or-right (list_any f base) (list_any new listed)
        (listed_any new listed n (sym (ap (λ (b : Bool). b || lists_id listed n) no) ∙ there) (ap (λ (b : Bool). not b && f n) no ∙ passes)))
        cases
