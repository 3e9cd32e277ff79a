-- One item of a list is put in the place of another, or behind all.
use Rattle.std.proofs.Common.{◌≡◌, ℕ, zero, suc, ◌<◌, List, [], ◌∷◌, ◌++◌, length, map, Some, refl, ap, ◌∙◌, arith}
use Rattle.std.specs.Prelude.{slice_get, slice_set, slice_index}

pub map-put : {X Y : Type 0} (f : X → Y) (xs : List X) (i : ℕ) (now : X) → map f (slice_set xs i now) ≡ slice_set (map f xs) i (f now)
map-put f [] i now = refl
map-put f (x ∷ xs) zero now = refl
map-put {Y = Y} f (x ∷ xs) (suc i) now = ap (λ (l : List Y). f x ∷ l) (map-put f xs i now)

pub map-push : {X Y : Type 0} (f : X → Y) (xs : List X) (x : X) → map f (xs ++ x ∷ []) ≡ map f xs ++ f x ∷ []
map-push f [] x = refl
map-push {Y = Y} f (y ∷ ys) x = ap (λ (l : List Y). f y ∷ l) (map-push f ys x)

pub length-map : {X Y : Type 0} (f : X → Y) (xs : List X) → length (map f xs) ≡ length xs
length-map f [] = refl
length-map f (x ∷ xs) = ap suc (length-map f xs)

-- what is told of an item
pub told : {X Y : Type 0} (f : X → Y) (xs : List X) (i : ℕ) (x : X) → slice_get xs i ≡ Some x → slice_get (map f xs) i ≡ Some (f x)
told f [] i x e = cc
told {X} {Y} f (y ∷ ys) zero x e = let same : y ≡ x = cc in ap (λ (z : X). Some (f z)) same
told f (y ∷ ys) (suc i) x e = told f ys i x e

pub set-same : {X : Type 0} (xs : List X) (i : ℕ) (a : X) → slice_get xs i ≡ Some a → slice_set xs i a ≡ xs
set-same [] i a e = refl
set-same {X = X} (x ∷ xs) zero a e = let same : a ≡ x = cc in ap (λ (y : X). y ∷ xs) same
set-same {X = X} (x ∷ xs) (suc i) a e = ap (λ (l : List X). x ∷ l) (set-same xs i a e)

-- what is told of the item that was put there is told of the one before it
pub put-same : {X Y : Type 0} (f : X → Y) (xs : List X) (i : ℕ) (was now : X) → slice_get xs i ≡ Some was → f now ≡ f was → map f (slice_set xs i now) ≡ map f xs
put-same {X} {Y} f xs i was now at same =
    map-put f xs i now ∙ ap (λ (y : Y). slice_set (map f xs) i y) same ∙ set-same (map f xs) i (f was) (told f xs i was at)

pub index-put : (xs : List ℕ) (i n : ℕ) → i < length xs → slice_index (slice_set xs i n) i ≡ n
index-put [] i n lt = absurd (omega (arith, lt))
index-put (x ∷ xs) zero n lt = refl
index-put (x ∷ xs) (suc i) n lt = index-put xs i n (omega (arith, lt))

pub index-told : {X : Type 0} (f : X → ℕ) (xs : List X) (i : ℕ) (x : X) → slice_get xs i ≡ Some x → slice_index (map f xs) i ≡ f x
index-told f [] i x e = cc
index-told {X} f (y ∷ ys) zero x e = let same : y ≡ x = cc in ap f same
index-told f (y ∷ ys) (suc i) x e = index-told f ys i x e
