-- Steps of loops that add what passes a test.
use Rattle.std.proofs.Common.{◌≡◌, ℕ, suc, Bool, List, [], ◌∷◌, ◌++◌, map, sym, ap, ◌∙◌}
use Rattle.std.specs.Prelude.{filter}
use Rattle.std.proofs.lemmas.List.{map-append}
use Rattle.std.proofs.lemmas.List.Elements.{filter-append}
use Rattle.rising_lists.specs.Ids.{ids_to}

mapped_append : {X Y : Type 0} (f : X → Y) (p : X → Bool) (xs ys : List X) → map f (filter p xs) ++ map f (filter p ys) ≡ map f (filter p (xs ++ ys))
mapped_append f p xs ys = sym (ap (map f) (filter-append p xs ys) ∙ map-append f (filter p xs) (filter p ys))

-- one id more, of which something is told
pub told_ids_step :
    {Y : Type 0} (f : ℕ → Y) (p : ℕ → Bool) (now next : List Y) (n m : ℕ)
    → m ≡ suc n
    → now ≡ map f (filter p (ids_to n))
    → next ≡ now ++ map f (filter p (m ∷ []))
    → next ≡ map f (filter p (ids_to m))
told_ids_step {Y = Y} f p now next n m one_more sofar more =
    more
    ∙ ap (λ (l : List Y). l ++ map f (filter p (m ∷ []))) sofar
    ∙ ap (λ (i : ℕ). map f (filter p (ids_to n)) ++ map f (filter p (i ∷ []))) one_more
    ∙ mapped_append f p (ids_to n) (suc n ∷ [])
    ∙ ap (λ (i : ℕ). map f (filter p (ids_to i))) (sym one_more)
