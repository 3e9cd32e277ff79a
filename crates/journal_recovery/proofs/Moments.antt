-- What a crash leaves of a file that came back.
use Rattle.std.proofs.Common.{◌≡◌, ◌∙◌, inr, ⊎_elim, inl, ℕ, ◌≤◌, List, arith}
use Rattle.journal_file.specs.Device.{LeavesOnly}
use Rattle.journal_file.specs.Settled.{IsDamaged, Stands, Keeps}
use Rattle.journal_file.specs.Whole.{text_of}

-- over what a device tells, and its laws
module _ {D : Type 0} (moment : D → ℕ) (left_since : D → ℕ → List ℕ → Type 0) (may_leave : D → List ℕ → Type 0)
    (counts_now : (file : D) (t : ℕ) (c : List ℕ) → t ≤ moment file → may_leave file c → left_since file t c)
    (only_now : (file : D) (c : List ℕ) → left_since file (moment file) c → may_leave file c) where
  -- a crash from now on is one since an earlier moment
  pub leaves_now : (old new : D) (P : List ℕ → Type 0) → LeavesOnly moment left_since old new P → (c : List ℕ) → left_since new (moment new) c → P c
  leaves_now old new P run c left = run.each c (counts_now new (moment old) c run.later (only_now new c left))

module _ {D : Type 0} (moment : D → ℕ) (left_since : D → ℕ → List ℕ → Type 0) where
  -- what keeps a file that isn't damaged stands for its text
  pub all_stand : (old new : D) (file : List ℕ) → (IsDamaged file → ⊥) → LeavesOnly moment left_since old new (Keeps file) → LeavesOnly moment left_since old new (Stands (text_of file))
  all_stand old new file sound run = record {
    later = run.later;
    each = λ c left. so c (run.each c left);
    before = λ t c le left. ⊎_elim (λ past. inl past) (λ keeps. inr (so c keeps)) (run.before t c le left);
  }
    where
      so : (c : List ℕ) → Keeps file c → Stands (text_of file) c
      so c keeps = record { is = keeps.is; sound = λ damaged. sound (keeps.sound damaged) }

  -- a file that keeps another stays so where it stands for that text from then on
  pub then_sealed : (old mid new : D) (file text : List ℕ) → text ≡ text_of file → LeavesOnly moment left_since old mid (Keeps file) → LeavesOnly moment left_since mid new (Stands text)
      → LeavesOnly moment left_since old new (Keeps file)
  then_sealed old mid new file text same first on = record {
    later = omega (arith, first.later, on.later);
    each = λ c left. ⊎_elim (λ past. first.each c past) (λ stands. so c stands) (on.before (moment old) c first.later left);
    before = λ t c le left. ⊎_elim (λ past. first.before t c le past) (λ stands. inr (so c stands)) (on.before t c (omega (arith, le, first.later)) left);
  }
    where
      so : (c : List ℕ) → Stands text c → Keeps file c
      so c stands = record { is = stands.is ∙ same; sound = λ damaged. absurd (stands.sound damaged) }
