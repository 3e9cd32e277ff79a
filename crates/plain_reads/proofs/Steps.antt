-- Steps of loops that add what passes a test.
use Rattle.std.proofs.Common.{◌≡◌, ℕ, suc, Bool, List, [], ◌∷◌, ◌++◌, map, take, length, get_or, ◌+◌, ◌<◌, sym, ap, ◌∙◌}
use Rattle.std.specs.Prelude.{Option, filter, filter_map, if◌then◌else◌}
use Rattle.std.proofs.lemmas.List.{take_more, map-append}
use Rattle.std.proofs.lemmas.List.Elements.{filter-append, filter_map-append}
use Rattle.osm_base.specs.declared.keys.Kind.{Kind}
use Rattle.osm_base.specs.declared.keys.Key.{Key}
use Rattle.osm_element.specs.Elements.{key, keys_to}
use Rattle.rising_lists.specs.Ids.{ids_to}

-- one id more
pub ids_step :
    (p : ℕ → Bool) (now next : List ℕ) (n m : ℕ) (passes : Bool)
    → m ≡ suc n
    → passes ≡ p m
    → now ≡ filter p (ids_to n)
    → next ≡ now ++ (if passes then m ∷ [] else [])
    → next ≡ filter p (ids_to m)
ids_step p now next n m passes one_more test sofar more =
    more
    ∙ ap (λ (b : Bool). now ++ (if b then m ∷ [] else [])) test
    ∙ ap (λ (l : List ℕ). l ++ filter p (m ∷ [])) sofar
    ∙ ap (λ (i : ℕ). filter p (ids_to n) ++ filter p (i ∷ [])) one_more
    ∙ sym (filter-append p (ids_to n) (suc n ∷ []))
    ∙ ap (λ (i : ℕ). filter p (ids_to i)) (sym one_more)

-- one of a list more, of which something is told
mapped_append : {X Y : Type 0} (f : X → Y) (p : X → Bool) (xs ys : List X) → map f (filter p xs) ++ map f (filter p ys) ≡ map f (filter p (xs ++ ys))
mapped_append f p xs ys = sym (ap (map f) (filter-append p xs ys) ∙ map-append f (filter p xs) (filter p ys))

pub told_ids_step :
    {Y : Type 0} (f : ℕ → Y) (p : ℕ → Bool) (now next : List Y) (n m : ℕ)
    → m ≡ suc n
    → now ≡ map f (filter p (ids_to n))
    → next ≡ now ++ map f (filter p (m ∷ []))
    → next ≡ map f (filter p (ids_to m))
told_ids_step {Y = Y} f p now next n m one_more sofar more =
    more
    ∙ ap (λ (l : List Y). l ++ map f (filter p (m ∷ []))) sofar
    ∙ ap (λ (i : ℕ). map f (filter p (ids_to n)) ++ map f (filter p (i ∷ []))) one_more
    ∙ mapped_append f p (ids_to n) (suc n ∷ [])
    ∙ ap (λ (i : ℕ). map f (filter p (ids_to i))) (sym one_more)

pub told_keys_step :
    {Y : Type 0} (f : Key → Y) (p : Key → Bool) (kind : Kind) (now next : List Y) (n m : ℕ)
    → m ≡ suc n
    → now ≡ map f (filter p (keys_to kind n))
    → next ≡ now ++ map f (filter p (key kind m ∷ []))
    → next ≡ map f (filter p (keys_to kind m))
told_keys_step {Y = Y} f p kind now next n m one_more sofar more =
    more
    ∙ ap (λ (l : List Y). l ++ map f (filter p (key kind m ∷ []))) sofar
    ∙ ap (λ (i : ℕ). map f (filter p (keys_to kind n)) ++ map f (filter p (key kind i ∷ []))) one_more
    ∙ mapped_append f p (keys_to kind n) (key kind (suc n) ∷ [])
    ∙ ap (λ (i : ℕ). map f (filter p (keys_to kind i))) (sym one_more)

-- the row of one more, where it has one
pub rows_step :
    {X Y : Type 0} (h : X → Option Y) (xs : List X) (i : ℕ) (d : X) (now next : List Y)
    → i < length xs
    → now ≡ filter_map h (take i xs)
    → next ≡ now ++ filter_map h (get_or xs i d ∷ [])
    → next ≡ filter_map h (take (i + 1) xs)
rows_step {X = X} {Y = Y} h xs i d now next within sofar more =
    more
    ∙ ap (λ (l : List Y). l ++ filter_map h (get_or xs i d ∷ [])) sofar
    ∙ sym (ap (filter_map h) (take_more xs i d within) ∙ filter_map-append h (take i xs) (get_or xs i d ∷ []))
