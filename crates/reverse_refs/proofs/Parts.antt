-- A list in two parts, of which one gets or loses an item.
use Rattle.std.proofs.Common.{◌≡◌, ℕ, ◌+◌, ◌-◌, ◌<◌, ◌≤◌, List, ◌++◌, length, take, drop, sym, ap, ◌∙◌, arith}
use Rattle.std.specs.Prelude.{insert, remove}
use Rattle.std.proofs.lemmas.List.{take-append-drop, length-take-le, take_at, drop_at}
use Rattle.std.proofs.lemmas.List.Edits.{length-insert, length-remove, insert-append_left, insert-append_right, remove-append_left, remove-append_right}

-- a list is parted at a place into two others
pub record IsCut {X : Type 0} (n : ℕ) (xs ys zs : List X) : Type 0 where
  pub front : take n xs ≡ ys
  pub back : drop n xs ≡ zs

cut : {X : Type 0} (n : ℕ) (xs ys zs : List X) → xs ≡ ys ++ zs → length ys ≡ n → IsCut n xs ys zs
cut n xs ys zs is long = record {
  front = ap (take n) is ∙ take_at ys zs n long;
  back = ap (drop n) is ∙ drop_at ys zs n long;
}

pub removed_behind : {X : Type 0} (xs : List X) (n p : ℕ) → n ≤ length xs → p < length (drop n xs) → IsCut n (remove xs (n + p)) (take n xs) (remove (drop n xs) p)
removed_behind {X = X} xs n p within inside =
    let long : length (take n xs) ≡ n = length-take-le n xs within in
    let place : n + p - n ≡ p = omega arith in
    cut n (remove xs (n + p)) (take n xs) (remove (drop n xs) p)
    (ap (λ (l : List X). remove l (n + p)) (sym (take-append-drop n xs))
    ∙ remove-append_right (take n xs) (drop n xs) n (n + p) long (omega arith)
    ∙ ap (λ (q : ℕ). take n xs ++ remove (drop n xs) q) place)
    long

pub inserted_behind : {X : Type 0} (xs : List X) (n p : ℕ) (x : X) → n ≤ length xs → p ≤ length (drop n xs) → IsCut n (insert xs (n + p) x) (take n xs) (insert (drop n xs) p x)
inserted_behind {X = X} xs n p x within inside =
    let long : length (take n xs) ≡ n = length-take-le n xs within in
    let place : n + p - n ≡ p = omega arith in
    cut n (insert xs (n + p) x) (take n xs) (insert (drop n xs) p x)
    (ap (λ (l : List X). insert l (n + p) x) (sym (take-append-drop n xs))
    ∙ insert-append_right (take n xs) (drop n xs) n (n + p) x long (omega arith)
    ∙ ap (λ (q : ℕ). take n xs ++ insert (drop n xs) q x) place)
    long

pub removed_before : {X : Type 0} (xs : List X) (n p : ℕ) → n ≤ length xs → p < length (take n xs) → IsCut (n - 1) (remove xs p) (remove (take n xs) p) (drop n xs)
removed_before {X = X} xs n p within inside =
    let long : length (take n xs) ≡ n = length-take-le n xs within in
    cut (n - 1) (remove xs p) (remove (take n xs) p) (drop n xs)
    (ap (λ (l : List X). remove l p) (sym (take-append-drop n xs)) ∙ remove-append_left (take n xs) (drop n xs) p inside)
    (omega (arith, length-remove (take n xs) p inside, long))

pub inserted_before : {X : Type 0} (xs : List X) (n p : ℕ) (x : X) → n ≤ length xs → p ≤ length (take n xs) → IsCut (n + 1) (insert xs p x) (insert (take n xs) p x) (drop n xs)
inserted_before {X = X} xs n p x within inside =
    let long : length (take n xs) ≡ n = length-take-le n xs within in
    cut (n + 1) (insert xs p x) (insert (take n xs) p x) (drop n xs)
    (ap (λ (l : List X). insert l p x) (sym (take-append-drop n xs)) ∙ insert-append_left (take n xs) (drop n xs) p x inside)
    (omega (arith, length-insert (take n xs) p x inside, long))
