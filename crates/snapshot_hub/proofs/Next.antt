-- The step that is one entry longer than a front is the next one.
use Rattle.std.proofs.Common.{◌≡◌, ◌+◌, ◌==◌, Bool, true, false, ◌&&◌, List, [], ◌∷◌, ◌++◌, length, refl, sym, ap, ◌∙◌, arith, length-append}
use Rattle.std.proofs.lemmas.List.Sums.{fold_push}
use Rattle.std.proofs.Math.Seq.{drop-append_seam}
use Rattle.std.proofs.lemmas.Bool.{eq-eqb}
use mathlib.Core.List.{IsPrefix}
use Rattle.machine_law.specs.Rules.{Rules, replay}
use Rattle.snapshot_hub.specs.Follow.{is_next, follow}

module _ {E : Type 0} where
  last_alone : (xs ys before : List E) (e : E) → xs ++ ys ≡ before ++ e ∷ [] → length ys ≡ 1 → xs ≡ before
  last_alone [] ys [] e h one = refl
  last_alone [] ys (b ∷ bs) e h one = absurd (omega (arith, ap length h, length-append bs (e ∷ [])))
  last_alone (x ∷ xs) ys [] e h one = absurd (omega (arith, ap length h, length-append xs ys))
  last_alone (x ∷ xs) ys (b ∷ bs) e h one = let rest = last_alone xs ys bs e (cc h) one in cc (h, rest)

  pub next_front : (xs all before : List E) (e : E) → all ≡ before ++ e ∷ [] → IsPrefix xs all → length all ≡ length xs + 1 → all ≡ xs ++ e ∷ []
  next_front xs all before e is p longer =
      let one : length p.0 ≡ 1 = omega (arith, ap length p.1, length-append xs p.0) in
      is ∙ ap (λ (l : List E). l ++ e ∷ []) (sym (last_alone xs p.0 before e (p.1 ∙ is) one))

module _ {S C Q P E K : Type 0} (rules : Rules S C Q P E K) where
  pub next_state : (xs all : List E) (e : E) → all ≡ xs ++ e ∷ [] → replay rules all ≡ rules.after (replay rules xs) e
  next_state xs all e is = ap (replay rules) is ∙ fold_push rules.after rules.start xs e

  alone : (s : Bool) → s && true ≡ s
  alone true = refl
  alone false = refl

  next_is : (xs : List E) (e : E) → is_next rules xs (xs ++ e ∷ []) ≡ rules.takes (replay rules xs) e
  next_is xs e =
      let longer : (length (xs ++ e ∷ []) == length xs + 1) ≡ true = eq-eqb (length (xs ++ e ∷ [])) (length xs + 1) (length-append xs (e ∷ [])) in
      rw (longer, drop-append_seam xs (e ∷ [])) (alone (rules.takes (replay rules xs) e))

  -- a step with one more entry, which may come next, is followed
  pub follows_taken : (xs all : List E) (e : E) → all ≡ xs ++ e ∷ [] → rules.takes (replay rules xs) e ≡ true → follow rules xs all ≡ all
  follows_taken xs all e is taken = rw is (rw (next_is xs e, taken) refl)
