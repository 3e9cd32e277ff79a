-- A search that stops as soon as no row is left. It finds the same, and computes quickly where there is no route.
use Rattle.std.proofs.Common.{◌≡◌, ℕ, zero, suc, ◌-◌, Bool, true, false, List, [], ◌∷◌, Option, None, refl, sym, ap, ◌∙◌}
use Rattle.matchit.specs.Rows.{RowsOf, param_token, catch_all_token}
use Rattle.matchit.specs.Seek.{own, step, or_else, param_step, seek, has_slash}

module _ {K : Type 0} where
  unfoldable pub quick : ℕ → RowsOf K → List ℕ → Option K
  quick _ [] path = None
  quick _ (r ∷ rs) [] = own (r ∷ rs)
  quick (suc skip) (r ∷ rs) (b ∷ path) = quick skip (r ∷ rs) path
  quick zero (r ∷ rs) (b ∷ path) =
      or_else (quick 0 (step b (r ∷ rs)) path)
      (or_else (quick ((param_step (step param_token (r ∷ rs)) (b ∷ path)).0 - 1) (param_step (step param_token (r ∷ rs)) (b ∷ path)).1 path)
      (own (step catch_all_token (r ∷ rs))))

  -- a parameter leads on from no row to none
  no_param_step : (path : List ℕ) → (param_step {K = K} [] path).1 ≡ []
  unfolding param_step
  no_param_step path = by_test (has_slash path) refl
    where
      by_test : (slash : Bool) → has_slash path ≡ slash → (param_step {K = K} [] path).1 ≡ []
      by_test true e = rw e refl
      by_test false e = rw e refl

  nothing : (skip : ℕ) (path : List ℕ) → seek {K = K} skip [] path ≡ None
  unfolding seek
  nothing skip [] = refl
  nothing (suc skip) (b ∷ path) = nothing skip path
  nothing zero (b ∷ path) = rw (nothing 0 path, no_param_step (b ∷ path), nothing ((param_step {K = K} [] (b ∷ path)).0 - 1) path) refl

  pub quick-seek : (skip : ℕ) (rs : RowsOf K) (path : List ℕ) → quick skip rs path ≡ seek skip rs path
  unfolding quick seek
  quick-seek skip [] path = sym (nothing skip path)
  quick-seek skip (r ∷ rs) [] = refl
  quick-seek (suc skip) (r ∷ rs) (b ∷ path) = quick-seek skip (r ∷ rs) path
  quick-seek zero (r ∷ rs) (b ∷ path) =
      let step_of = param_step (step param_token (r ∷ rs)) (b ∷ path) in
      ap (λ (found : Option K). or_else found (or_else (quick (step_of.0 - 1) step_of.1 path) (own (step catch_all_token (r ∷ rs)))))
      (quick-seek 0 (step b (r ∷ rs)) path)
      ∙ ap (λ (found : Option K). or_else (seek 0 (step b (r ∷ rs)) path) (or_else found (own (step catch_all_token (r ∷ rs)))))
      (quick-seek (step_of.0 - 1) step_of.1 path)
