-- Rows of elements, one more or lists of them.
use Rattle.std.proofs.Common.{◌≡◌, ℕ, List, [], ◌∷◌, ◌++◌, map, take, length, get_or, ◌+◌, ◌<◌, sym, ap, ◌∙◌, append_assoc}
use Rattle.std.specs.Prelude.{Option, filter_map}
use Rattle.std.proofs.lemmas.List.{take_more, map-append}
use Rattle.std.proofs.lemmas.List.Elements.{filter_map-append}

-- the row of one more, where it has one
pub rows_step :
    {X Y : Type 0} (h : X → Option Y) (xs : List X) (i : ℕ) (d : X) (now next : List Y)
    → i < length xs
    → now ≡ filter_map h (take i xs)
    → next ≡ now ++ filter_map h (get_or xs i d ∷ [])
    → next ≡ filter_map h (take (i + 1) xs)
rows_step {X = X} {Y = Y} h xs i d now next within sofar more =
    more
    ∙ ap (λ (l : List Y). l ++ filter_map h (get_or xs i d ∷ [])) sofar
    ∙ sym (ap (filter_map h) (take_more xs i d within) ∙ filter_map-append h (take i xs) (get_or xs i d ∷ []))

-- the same of what stands for one more, after other rows
pub mapped_step :
    {I X Y : Type 0} (h : X → Option Y) (f : I → X) (ids : List I) (i : ℕ) (d : I) (start now next : List Y)
    → i < length ids
    → now ≡ start ++ filter_map h (map f (take i ids))
    → next ≡ now ++ filter_map h (f (get_or ids i d) ∷ [])
    → next ≡ start ++ filter_map h (map f (take (i + 1) ids))
mapped_step {I = I} {X = X} {Y = Y} h f ids i d start now next within sofar more =
    more
    ∙ ap (λ (l : List Y). l ++ filter_map h (f (get_or ids i d) ∷ [])) sofar
    ∙ append_assoc start (filter_map h (map f (take i ids))) (filter_map h (f (get_or ids i d) ∷ []))
    ∙ ap (λ (l : List Y). start ++ l)
    (sym (ap (λ (l : List I). filter_map h (map f l)) (take_more ids i d within)
    ∙ ap (filter_map h) (map-append f (take i ids) (get_or ids i d ∷ []))
    ∙ filter_map-append h (map f (take i ids)) (f (get_or ids i d) ∷ [])))

-- the rows of three lists, one after the other
pub rows_of_three :
    {X Y : Type 0} (h : X → Option Y) (xs ys zs : List X) (first second third : List Y)
    → first ≡ filter_map h xs
    → second ≡ first ++ filter_map h ys
    → third ≡ second ++ filter_map h zs
    → third ≡ filter_map h (xs ++ (ys ++ zs))
rows_of_three {X = X} {Y = Y} h xs ys zs first second third one two three =
    three
    ∙ ap (λ (l : List Y). l ++ filter_map h zs) (two ∙ ap (λ (l : List Y). l ++ filter_map h ys) one)
    ∙ append_assoc (filter_map h xs) (filter_map h ys) (filter_map h zs)
    ∙ ap (λ (l : List Y). filter_map h xs ++ l) (sym (filter_map-append h ys zs))
    ∙ sym (filter_map-append h xs (ys ++ zs))
