-- Lists with one more item at their end.
use Rattle.std.proofs.Common.{◌≡◌, ℕ, zero, suc, ◌<◌, ◌⊎◌, inl, inr, List, [], ◌∷◌, ◌++◌, length, Some, refl, ap, ⊎_elim, arith}
use Rattle.std.specs.Prelude.{slice_get}

-- an item of a list with one more at its end
pub found_in_push :
    {A : Type 0} (xs : List A) (y : A) (n : ℕ) (x : A)
    → slice_get (xs ++ y ∷ []) n ≡ Some x
    → (slice_get xs n ≡ Some x) × (n < length xs) ⊎ (n ≡ length xs) × (x ≡ y)
found_in_push [] y zero x found = inr (refl, cc)
found_in_push [] y (suc n) x found = cc
found_in_push (z ∷ zs) y zero x found = inl (found, omega arith)
found_in_push (z ∷ zs) y (suc n) x found =
    ⊎_elim (λ a. inl (a.0, omega (arith, a.1))) (λ b. inr (ap suc b.0, b.1)) (found_in_push zs y n x found)
