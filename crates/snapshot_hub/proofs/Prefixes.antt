-- Beginnings of one list.
use Rattle.std.proofs.Common.{◌≡◌, ℕ, ◌+◌, ◌≤◌, ◌<◌, List, [], ◌∷◌, ◌++◌, length, take, get_or, ap, sym, ◌∙◌, arith, append_assoc, length-append}
use Rattle.std.proofs.lemmas.List.{take-append-le, take_more}
use Rattle.std.specs.List.{AllByRecursion}
use mathlib.Core.List.{IsPrefix}

module _ {A : Type 0} where
  pub prefix_trans : (xs ys zs : List A) → IsPrefix xs ys → IsPrefix ys zs → IsPrefix xs zs
  prefix_trans xs ys zs p q = (p.0 ++ q.0, sym (append_assoc xs p.0 q.0) ∙ (ap (λ w. w ++ q.0) p.1 ∙ q.1))

  pub prefix_length : (xs ys : List A) → IsPrefix xs ys → length xs ≤ length ys
  prefix_length xs ys p = omega (arith, sym (ap length p.1) ∙ length-append xs p.0)

  -- a longer list begins with the same items
  pub prefix_take : (n : ℕ) (xs ys : List A) → IsPrefix xs ys → n ≤ length xs → take n ys ≡ take n xs
  prefix_take n xs ys p le = ap (take n) (sym p.1) ∙ take-append-le n xs p.0 le

-- what holds of each item so far, and of the next one, holds of one more, where it follows from what held so far
module _ {A : Type 0} where
  each_then : (P Q : A → Type 0) → ((x : A) → P x → Q x) → (xs : List A) (x : A) → AllByRecursion P xs → Q x → AllByRecursion Q (xs ++ x ∷ [])
  each_then P Q to [] x h q = (q, tt)
  each_then P Q to (y ∷ xs) x h q = (to y h.0, each_then P Q to xs x h.1 q)

  pub each_more : (P Q : A → Type 0) → ((x : A) → P x → Q x) → (xs : List A) (i : ℕ) (d : A) → i < length xs
      → AllByRecursion P (take i xs) → Q (get_or xs i d) → AllByRecursion Q (take (i + 1) xs)
  each_more P Q to xs i d inside h q = rw (take_more xs i d inside) (each_then P Q to (take i xs) (get_or xs i d) h q)
