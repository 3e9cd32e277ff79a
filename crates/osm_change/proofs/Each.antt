-- What a loop over a list of steps has done.
use Rattle.std.proofs.Common.{◌≡◌, ◌⊎◌, ℕ, suc, ◌+◌, ◌<◌, add-one, subst, List, [], ◌∷◌, ◌++◌, length, drop, Result, Ok, Err, refl, sym, ap, ◌∙◌}
use Rattle.std.proofs.Math.ListN.{get_or}
use Rattle.std.proofs.lemmas.List.{append_assoc}
use Rattle.std.proofs.Math.Seq.{drop-cons}
use Rattle.osm_base.specs.Outcome.{◌>>=◌}
use Rattle.osm_change.specs.Outcome.{each, cons_ok, Gives}
use Rattle.osm_change.specs.declared.causes.Cause.{Cause}
use Rattle.osm_change.specs.declared.causes.Cause.TheVariants.{Memory}

-- after items that are done
abbrev pub after : {A E : Type 0} → List A → Result (List A) E → Result (List A) E
after done (Ok xs) = Ok (done ++ xs)
after done (Err e) = Err e

pub after-nil : {A E : Type 0} (r : Result (List A) E) → after [] r ≡ r
after-nil (Ok xs) = refl
after-nil (Err e) = refl

pub after-cons : {A E : Type 0} (done : List A) (x : A) (r : Result (List A) E) → after done (cons_ok x r) ≡ after (done ++ x ∷ []) r
after-cons done x (Ok xs) = ap Ok (sym (append_assoc done (x ∷ []) xs))
after-cons done x (Err e) = refl

pub each-step : {A B E : Type 0} (f : A → Result B E) (done : List B) (x : A) (xs : List A) (y : B) → f x ≡ Ok y → after done (each f (x ∷ xs)) ≡ after (done ++ y ∷ []) (each f xs)
each-step f done x xs y e = ap (λ r. after done (r >>= (λ y. cons_ok y (each f xs)))) e ∙ after-cons done y (each f xs)

pub each-stop : {A B E : Type 0} (f : A → Result B E) (done : List B) (x : A) (xs : List A) (cause : E) → f x ≡ Err cause → after done (each f (x ∷ xs)) ≡ Err cause
each-stop f done x xs cause e = ap (λ r. after done (r >>= (λ y. cons_ok y (each f xs)))) e

-- the same at a place of a list
pub each-step-at : {A B E : Type 0} (f : A → Result B E) (xs : List A) (i : ℕ) (d : A) (done next : List B) (y : B) → i < length xs → f (get_or xs i d) ≡ Ok y → next ≡ done ++ y ∷ [] → after done (each f (drop i xs)) ≡ after next (each f (drop (i + 1) xs))
each-step-at f xs i d done next y lt e pushed =
    ap (λ ys. after done (each f ys)) (drop-cons xs i d lt) ∙ each-step f done (get_or xs i d) (drop (suc i) xs) y e ∙ ap (λ zs. after zs (each f (drop (suc i) xs))) (sym pushed) ∙ ap (λ n. after next (each f (drop n xs))) (sym (add-one i))

pub each-stop-at : {A B E : Type 0} (f : A → Result B E) (xs : List A) (i : ℕ) (d : A) (done : List B) (cause : E) → i < length xs → f (get_or xs i d) ≡ Err cause → after done (each f (drop i xs)) ≡ Err cause
each-stop-at f xs i d done cause lt e =
    ap (λ ys. after done (each f ys)) (drop-cons xs i d lt) ∙ each-stop f done (get_or xs i d) (drop (suc i) xs) cause e

-- what a refusal passes on
pub gives-err : {A : Type 0} (expected given : Result A Cause) (cause : Cause) → given ≡ Err cause → (cause ≡ Memory) ⊎ (expected ≡ Err cause) → Gives expected given
gives-err expected given cause e h = subst (Gives expected) (sym e) h
