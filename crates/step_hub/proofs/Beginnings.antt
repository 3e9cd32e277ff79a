-- Beginnings of one list.
use Rattle.std.proofs.Common.{◌≡◌, ℕ, ◌+◌, ◌<◌, ◌≤◌, List, [], ◌∷◌, ◌++◌, length, take, drop, ◌-◌, get_or, ⊎_elim, inl, refl, ap, sym, ◌∙◌, arith, append_assoc, append-nil, length-append}
use Rattle.std.proofs.lemmas.List.{take-append-le, take_more}
use Rattle.std.proofs.Math.Seq.{drop-append_seam, take-length}
use Rattle.std.specs.List.{AllByRecursion}
use mathlib.Core.List.{IsPrefix}
use Rattle.http_wire.specs.declared.message.Message.{Message}
use Rattle.http_link.specs.declared.desk.Reply.{Reply}
use Rattle.step_hub.specs.Steps.{GrowsByOne, StepsOn}

module _ {A : Type 0} where
  pub prefix_self : (xs : List A) → IsPrefix xs xs
  prefix_self xs = ([], append-nil xs)

  pub prefix_trans : (xs ys zs : List A) → IsPrefix xs ys → IsPrefix ys zs → IsPrefix xs zs
  prefix_trans xs ys zs p q = (p.0 ++ q.0, sym (append_assoc xs p.0 q.0) ∙ (ap (λ w. w ++ q.0) p.1 ∙ q.1))

  pub prefix_length : (xs ys : List A) → IsPrefix xs ys → length xs ≤ length ys
  prefix_length xs ys p = omega (arith, sym (ap length p.1) ∙ length-append xs p.0)

  -- a beginning of a list is what is taken of the list at its length
  pub taken_is : (xs ys : List A) → IsPrefix xs ys → take (length xs) ys ≡ xs
  taken_is xs ys p = ap (take (length xs)) (sym p.1) ∙ (take-append-le (length xs) xs p.0 (omega arith) ∙ take_all xs)
    where
      take_all : (l : List A) → take (length l) l ≡ l
      take_all [] = refl
      take_all (x ∷ l) = ap (λ w. x ∷ w) (take_all l)

  -- what grows by one goes on, by one entry at most
  pub grows_on : (old new : List A) → GrowsByOne old new → IsPrefix old new
  grows_on old new grown = ⊎_elim (λ same. ([], append-nil old ∙ sym same)) (λ more. (more.0 ∷ [], sym more.1)) grown

  pub grows_one : (old new : List A) → GrowsByOne old new → length new ≤ length old + 1
  grows_one old new grown =
      ⊎_elim (λ same. omega (arith, ap length same)) (λ more. omega (arith, ap length more.1 ∙ length-append old (more.0 ∷ []))) grown

  -- what grows by one and is longer has its last entry more
  pub grown_last : (old new before : List A) (e : A) → GrowsByOne old new → new ≡ before ++ e ∷ [] → length old < length new → old ++ e ∷ [] ≡ new
  grown_last old new before e grown last longer =
      ⊎_elim (λ same. absurd (omega (arith, longer, ap length same)))
      (λ more. let is : before ++ e ∷ [] ≡ old ++ more.0 ∷ [] = sym last ∙ more.1 in
      ap (λ x. old ++ x ∷ []) (last_same before old e more.0 is) ∙ sym more.1) grown
    where
      last_same : (xs ys : List A) (x y : A) → xs ++ x ∷ [] ≡ ys ++ y ∷ [] → x ≡ y
      last_same [] [] x y is = cc
      last_same [] (b ∷ ys) x y is = absurd (omega (arith, ap length is, length-append ys (y ∷ [])))
      last_same (a ∷ xs) [] x y is = absurd (omega (arith, ap length is, length-append xs (x ∷ [])))
      last_same (a ∷ xs) (b ∷ ys) x y is = let rest : xs ++ x ∷ [] ≡ ys ++ y ∷ [] = cc in last_same xs ys x y rest

  -- the part of a list behind a beginning of it
  pub part_behind : (old new : List A) → IsPrefix old new → old ++ take (length new - length old) (drop (length old) new) ≡ new
  part_behind old new p =
      let rest : drop (length old) new ≡ p.0 = ap (drop (length old)) (sym p.1) ∙ drop-append_seam old p.0 in
      let more : length new - length old ≡ length p.0 = omega (arith, sym (ap length p.1) ∙ length-append old p.0) in
      rw (rest, more, take-length) p.1

  -- a step that leaves the list that was seen
  pub nothing_done : (steps : List A → Message → ℕ → Reply → List A → Type 0) (list : List A) (grown : ℕ) (message : Message) (moment : ℕ) (reply : Reply)
      → steps list message moment reply list → StepsOn steps list grown message moment reply list grown
  nothing_done steps list grown message moment reply step = record {
    found = list;
    begins = prefix_self list;
    step = step;
    grows = inl refl;
    counts = refl;
  }

  -- a step of a list that is found, which goes on from what was seen
  pub one_done : (steps : List A → Message → ℕ → Reply → List A → Type 0) (old found new : List A) (grown added : ℕ) (message : Message) (moment : ℕ) (reply : Reply)
      → IsPrefix old found → steps found message moment reply new → GrowsByOne found new → length new ≡ length found + added
      → StepsOn steps old grown message moment reply new (grown + added)
  one_done steps old found new grown added message moment reply begins step grows more = record {
    found = found;
    begins = begins;
    step = step;
    grows = grows;
    counts = omega (arith, more);
  }

  each_then : (P Q : A → Type 0) → ((x : A) → P x → Q x) → (xs : List A) (x : A) → AllByRecursion P xs → Q x → AllByRecursion Q (xs ++ x ∷ [])
  each_then P Q to [] x h q = (q, tt)
  each_then P Q to (y ∷ xs) x h q = (to y h.0, each_then P Q to xs x h.1 q)

  -- what holds of each item so far, and of the next one, holds of one more, where it follows from what held so far
  pub each_more : (P Q : A → Type 0) → ((x : A) → P x → Q x) → (xs : List A) (i : ℕ) (d : A) → i < length xs
      → AllByRecursion P (take i xs) → Q (get_or xs i d) → AllByRecursion Q (take (i + 1) xs)
  each_more P Q to xs i d inside h q = rw (take_more xs i d inside) (each_then P Q to (take i xs) (get_or xs i d) h q)
