-- How a run of device calls goes on.
use Rattle.std.proofs.Common.{inl, inr, ⊎_elim, ℕ, List, arith}
use Rattle.journal_file.specs.Device.{Elapses, LeavesOnly}

module _ {D : Type 0} (moment : D → ℕ) (left_since : D → ℕ → List ℕ → Type 0) where
  -- before the first call
  pub started : (old : D) (P : List ℕ → Type 0) → ((c : List ℕ) → left_since old (moment old) c → P c) → LeavesOnly moment left_since old old P
  started old P here = record { later = omega arith; each = here; before = λ t c le left. inl left }

  -- one call more, after which a crash leaves what has P
  pub goes_on : (old mid new : D) (P may_leave : List ℕ → Type 0) → LeavesOnly moment left_since old mid P → Elapses (moment mid) (moment new) (left_since mid) (left_since new) may_leave
      → ((c : List ℕ) → may_leave c → P c) → LeavesOnly moment left_since old new P
  goes_on old mid new P may_leave so_far time here = record {
    later = omega (arith, so_far.later, time.later);
    each = λ c left. ⊎_elim (so_far.each c) (here c) (time.nothing_else (moment old) c so_far.later left);
    before = λ t c le left. ⊎_elim (so_far.before t c le) (λ now. inr (here c now)) (time.nothing_else t c (omega (arith, le, so_far.later)) left);
  }

  -- what has P has Q too
  pub weaker : (old new : D) (P Q : List ℕ → Type 0) → ((c : List ℕ) → P c → Q c) → LeavesOnly moment left_since old new P → LeavesOnly moment left_since old new Q
  weaker old new P Q so run = record {
    later = run.later;
    each = λ c left. so c (run.each c left);
    before = λ t c le left. ⊎_elim (λ past. inl past) (λ has. inr (so c has)) (run.before t c le left);
  }

  -- a run behind another, each over what it may leave
  pub goes_over : (old mid new : D) (P Q R : List ℕ → Type 0) → ((c : List ℕ) → P c → R c) → ((c : List ℕ) → Q c → R c) → LeavesOnly moment left_since old mid P → LeavesOnly moment left_since mid new Q
      → LeavesOnly moment left_since old new R
  goes_over old mid new P Q R first second so_far on = record {
    later = omega (arith, so_far.later, on.later);
    each = λ c left. ⊎_elim (λ past. first c (so_far.each c past)) (λ has. second c has) (on.before (moment old) c so_far.later left);
    before = λ t c le left. ⊎_elim (λ past. ⊎_elim (λ earlier. inl earlier) (λ has. inr (first c has)) (so_far.before t c le past)) (λ has. inr (second c has)) (on.before t c (omega (arith, le, so_far.later)) left);
  }

-- a run so far, and what a crash may leave now
pub record Still {D : Type 0} (moment : D → ℕ) (left_since : D → ℕ → List ℕ → Type 0) (may_leave : D → List ℕ → Type 0) (P : List ℕ → Type 0) (old new : D) : Type 0 where
  pub run : LeavesOnly moment left_since old new P
  pub now : (c : List ℕ) → may_leave new c → P c

module _ {D : Type 0} (moment : D → ℕ) (left_since : D → ℕ → List ℕ → Type 0) (may_leave : D → List ℕ → Type 0) (P : List ℕ → Type 0) where
  pub still_start : (old : D) → ((c : List ℕ) → left_since old (moment old) c → may_leave old c) → ((c : List ℕ) → may_leave old c → P c) → Still moment left_since may_leave P old old
  still_start old only_now here = record { run = started moment left_since old P (λ c left. here c (only_now c left)); now = here }

  pub still_call : (old mid new : D) → Still moment left_since may_leave P old mid → Elapses (moment mid) (moment new) (left_since mid) (left_since new) (may_leave new)
      → ((c : List ℕ) → may_leave new c → P c) → Still moment left_since may_leave P old new
  still_call old mid new so_far time here = record { run = goes_on moment left_since old mid new P (may_leave new) so_far.run time here; now = here }

  pub still_sync : (old mid new : D) → Still moment left_since may_leave P old mid → Elapses (moment mid) (moment new) (left_since mid) (left_since new) (may_leave new)
      → ((c : List ℕ) → may_leave new c → may_leave mid c) → Still moment left_since may_leave P old new
  still_sync old mid new so_far time fewer = still_call old mid new so_far time (λ c left. so_far.now c (fewer c left))
