-- The versions that operations made, operation by operation.
use Rattle.std.proofs.Common.{◌≡◌, ℕ, zero, suc, ◌<◌, ◌≤◌, List, [], ◌∷◌, ◌++◌, length, take, get_or, Some, Ok, Err, refl, sym, ap, ◌∙◌, append-nil, append_assoc, arith}
use Rattle.std.specs.Prelude.{Result, OnErr, min, slice_get, slice_set}
use Rattle.osm_base.specs.declared.keys.Key.{Key}
use Rattle.osm_change.specs.declared.operations.OpDone.{OpDone}
use Rattle.changeset_core.specs.declared.records.Work.{Work}
use Rattle.osm_model.specs.Fold.{work_of, works}

-- an item that is there, whatever stands for one that isn't
pub at_same : {X : Type 0} (xs : List X) (i : ℕ) (d e : X) → i < length xs → get_or xs i d ≡ get_or xs i e
at_same [] i d e within = absurd (omega (arith, within))
at_same (x ∷ xs) zero d e within = refl
at_same (x ∷ xs) (suc i) d e within = at_same xs i d e (omega (arith, within))

-- one place more
works-step :
    (n : ℕ) (ks : List Key) (ds : List OpDone) (k : Key) (d : OpDone)
    → n < length ks
    → n < length ds
    → k ≡ get_or ks n k
    → d ≡ get_or ds n d
    → works (take (suc n) ks) (take (suc n) ds) ≡ works (take n ks) (take n ds) ++ work_of k d
works-step n [] ds k d in_keys in_done key done = absurd (omega (arith, in_keys))
works-step n (x ∷ ks) [] k d in_keys in_done key done = absurd (omega (arith, in_done))
works-step zero (x ∷ ks) (y ∷ ds) k d in_keys in_done key done =
    append-nil (work_of x y) ∙ ap (λ (z : Key). work_of z y) (sym key) ∙ ap (work_of k) (sym done)
works-step (suc n) (x ∷ ks) (y ∷ ds) k d in_keys in_done key done =
    ap (λ (ws : List Work). work_of x y ++ ws) (works-step n ks ds k d (omega (arith, in_keys)) (omega (arith, in_done)) key done)
    ∙ sym (append_assoc (work_of x y) (works (take n ks) (take n ds)) (work_of k d))

pub works_more :
    (n m : ℕ) (ks : List Key) (ds : List OpDone) (k : Key) (d : OpDone) (now next : List Work)
    → m ≡ suc n
    → n < length ks
    → n < length ds
    → k ≡ get_or ks n k
    → d ≡ get_or ds n d
    → now ≡ works (take n ks) (take n ds)
    → next ≡ now ++ work_of k d
    → next ≡ works (take m ks) (take m ds)
works_more n m ks ds k d now next one_more in_keys in_done key done so_far more =
    more
    ∙ ap (λ (ws : List Work). ws ++ work_of k d) so_far
    ∙ sym (works-step n ks ds k d in_keys in_done key done)
    ∙ ap (λ (i : ℕ). works (take i ks) (take i ds)) (sym one_more)

-- up to the end of the shorter list
pub works-all : (n : ℕ) (ks : List Key) (ds : List OpDone) → min (length ks) (length ds) ≤ n → works (take n ks) (take n ds) ≡ works ks ds
works-all zero [] ds end = refl
works-all zero (x ∷ ks) [] end = refl
works-all zero (x ∷ ks) (y ∷ ds) end = absurd (omega (arith, end))
works-all (suc n) [] ds end = refl
works-all (suc n) (x ∷ ks) [] end = refl
works-all (suc n) (x ∷ ks) (y ∷ ds) end = ap (λ (ws : List Work). work_of x y ++ ws) (works-all n ks ds (omega (arith, end)))

-- ---- an item that is put back as it was

pub set_back : {X : Type 0} (xs : List X) (place : ℕ) (old new : X) → slice_get xs place ≡ Some old → new ≡ old → slice_set xs place new ≡ xs
set_back [] place old new there same = refl
set_back {X = X} (x ∷ xs) zero old new there same = let first : x ≡ old = cc in ap (λ (y : X). y ∷ xs) (same ∙ sym first)
set_back {X = X} (x ∷ xs) (suc place) old new there same = ap (λ (ys : List X). x ∷ ys) (set_back xs place old new there same)

pub on_err : {T E : Type 0} (r : Result T E) (P : Type 0) → P → OnErr r P
on_err (Ok a) P holds = tt
on_err (Err e) P holds = holds
