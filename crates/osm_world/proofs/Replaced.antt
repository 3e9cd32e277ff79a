-- One item of a list is replaced: another stands in its place for a while.
use Rattle.std.proofs.Common.{◌≡◌, ℕ, zero, suc, ◌≤◌, List, [], ◌∷◌, length, map, Some, refl, sym, ap, ◌∙◌, subst, arith}
use Rattle.std.specs.Prelude.{Option, slice_get, slice_set, slice_index}
use Rattle.changeset_core.specs.Kept.{Kept}

-- the item k at a place has become now
pub record IsPut (ks : List Kept) (i : ℕ) (k now : Kept) (new : List Kept) : Type 0 where
  pub at : slice_get ks i ≡ Some k
  pub put : new ≡ slice_set ks i now

set-twice : (ks : List Kept) (i : ℕ) (a b : Kept) → slice_set (slice_set ks i a) i b ≡ slice_set ks i b
set-twice [] i a b = refl
set-twice (x ∷ xs) zero a b = refl
set-twice (x ∷ xs) (suc i) a b = ap (λ (l : List Kept). x ∷ l) (set-twice xs i a b)

pub is_put : (ks new : List Kept) (i : ℕ) (vacant k now : Kept) → slice_get ks i ≡ Some k → new ≡ slice_set (slice_set ks i vacant) i now → IsPut ks i k now new
is_put ks new i vacant k now at put = record { at = at; put = put ∙ set-twice ks i vacant now }

map-put : {X : Type 0} (f : Kept → X) (ks : List Kept) (i : ℕ) (now : Kept) → map f (slice_set ks i now) ≡ slice_set (map f ks) i (f now)
map-put f [] i now = refl
map-put f (x ∷ xs) zero now = refl
map-put {X = X} f (x ∷ xs) (suc i) now = ap (λ (l : List X). f x ∷ l) (map-put f xs i now)

-- what is told of the item changes with it
pub put-is : {X : Type 0} (f : Kept → X) (ks : List Kept) (i : ℕ) (k now : Kept) (new : List Kept) → IsPut ks i k now new → map f new ≡ slice_set (map f ks) i (f now)
put-is f ks i k now new is = ap (map f) is.put ∙ map-put f ks i now

pub told : {X : Type 0} (f : Kept → X) (ks : List Kept) (i : ℕ) (k : Kept) → slice_get ks i ≡ Some k → slice_get (map f ks) i ≡ Some (f k)
told f [] i k e = cc
told f (x ∷ xs) zero k e = let same : x ≡ k = cc in ap (λ (y : Kept). Some (f y)) same
told f (x ∷ xs) (suc i) k e = told f xs i k e

set-same : {X : Type 0} (xs : List X) (i : ℕ) (a : X) → slice_get xs i ≡ Some a → slice_set xs i a ≡ xs
set-same [] i a e = refl
set-same {X = X} (x ∷ xs) zero a e = let same : a ≡ x = cc in ap (λ (y : X). y ∷ xs) same
set-same {X = X} (x ∷ xs) (suc i) a e = ap (λ (l : List X). x ∷ l) (set-same xs i a e)

-- what is told of the item stays, where it is the same of both
pub put-same : {X : Type 0} (f : Kept → X) (ks : List Kept) (i : ℕ) (k now : Kept) (new : List Kept) → IsPut ks i k now new → f now ≡ f k → map f new ≡ map f ks
put-same f ks i k now new is same =
    put-is f ks i k now new is ∙ ap (slice_set (map f ks) i) same ∙ set-same (map f ks) i (f k) (told f ks i k is.at)

pub index-told : (f : Kept → ℕ) (ks : List Kept) (i : ℕ) (k : Kept) → slice_get ks i ≡ Some k → slice_index (map f ks) i ≡ f k
index-told f [] i k e = cc
index-told f (x ∷ xs) zero k e = let same : x ≡ k = cc in ap f same
index-told f (x ∷ xs) (suc i) k e = index-told f xs i k e

-- a number that is told of it
pub put-index : (f : Kept → ℕ) (ks : List Kept) (i : ℕ) (k now : Kept) (new : List Kept) → IsPut ks i k now new → slice_index (map f new) i ≡ f now
put-index f ks i k now new is = ap (λ (l : List ℕ). slice_index l i) (put-is f ks i k now new is) ∙ along ks i is.at
  where
    along : (ks : List Kept) (i : ℕ) → slice_get ks i ≡ Some k → slice_index (slice_set (map f ks) i (f now)) i ≡ f now
    along [] i e = cc
    along (x ∷ xs) zero e = refl
    along (x ∷ xs) (suc i) e = along xs i e

-- no number that is told is greater than before
pub put-less : (f : Kept → ℕ) (ks : List Kept) (i : ℕ) (k now : Kept) (new : List Kept) → IsPut ks i k now new → f now ≤ f k → (j : ℕ) → slice_index (map f new) j ≤ slice_index (map f ks) j
put-less f ks i k now new is less j =
    subst (λ (l : List ℕ). slice_index l j ≤ slice_index (map f ks) j) (sym (put-is f ks i k now new is)) (each ks i j is.at)
  where
    each : (ks : List Kept) (i j : ℕ) → slice_get ks i ≡ Some k → slice_index (slice_set (map f ks) i (f now)) j ≤ slice_index (map f ks) j
    each [] i j e = cc
    each (x ∷ xs) zero zero e = let same : x ≡ k = cc in omega (arith, less, ap f same)
    each (x ∷ xs) zero (suc j) e = omega arith
    each (x ∷ xs) (suc i) zero e = omega arith
    each (x ∷ xs) (suc i) (suc j) e = each xs i j e

-- the numbers that are told of the others
pub put-others : (f : Kept → ℕ) (ks : List Kept) (i : ℕ) (k now : Kept) (new : List Kept) → IsPut ks i k now new → (j : ℕ) → (j ≡ i → ⊥) → slice_index (map f new) j ≡ slice_index (map f ks) j
put-others f ks i k now new is j other =
    ap (λ (l : List ℕ). slice_index l j) (put-is f ks i k now new is) ∙ each ks i j other
  where
    each : (ks : List Kept) (i j : ℕ) → (j ≡ i → ⊥) → slice_index (slice_set (map f ks) i (f now)) j ≡ slice_index (map f ks) j
    each [] i j other = refl
    each (x ∷ xs) zero zero other = absurd (other refl)
    each (x ∷ xs) zero (suc j) other = refl
    each (x ∷ xs) (suc i) zero other = refl
    each (x ∷ xs) (suc i) (suc j) other = each xs i j (λ e. other (ap suc e))

pub length-told : {X : Type 0} (f : Kept → X) (ks : List Kept) → length (map f ks) ≡ length ks
length-told f [] = refl
length-told f (k ∷ ks) = ap suc (length-told f ks)

pub same-some : {X : Type 0} (a b : X) → ◌≡◌ {A = Option X} (Some a) (Some b) → a ≡ b
same-some a b e = cc
