-- Bytes of a batch that are lost: they have become 0.
use Rattle.std.proofs.Common.{◌≡◌, ◌≢◌, ◌⊎◌, inl, inr, ℕ, List, [], ◌∷◌, ◌++◌, Option, Some, None, refl, sym, ap, ◌∙◌, append_assoc}
use Rattle.std.specs.Prelude.{unwrap_or}
use Rattle.journal_file.specs.Whole.{behind_lines, behind_line, rest_of}
use Rattle.journal_file.specs.Settled.{AreZeros, HasMoreBehind, IsDamaged}
use Rattle.journal_file.proofs.Lines.{by_first, by_byte, rest_stop, behind_on}

-- ---- where the whole lines stop before a byte that is lost

-- what stands behind the lines reaches to a byte 0 at least
record Reaches (front back rest : List ℕ) : Type 0 where
  before : List ℕ
  is : rest ≡ before ++ 0 ∷ back

abbrev LineReaches : List ℕ → List ℕ → List ℕ → Type 0
LineReaches front back bytes = (behind_line bytes ≡ None) ⊎ ((rest : List ℕ) × (behind_line bytes ≡ Some rest) × Reaches front back rest)

abbrev Both : List ℕ → List ℕ → Type 0
Both front back = Reaches front back (behind_lines (front ++ 0 ∷ back)) × LineReaches front back (front ++ 0 ∷ back)

all_of : (front back : List ℕ) (rest : List ℕ) → rest ≡ front ++ 0 ∷ back → Reaches front back rest
all_of front back rest is = record { before = front; is = is }

module _ (b : ℕ) (front back : List ℕ) (again : Both front back) where
  abbrev bytes : List ℕ
  bytes = front ++ 0 ∷ back

  begun : LineReaches front back bytes → Reaches (123 ∷ front) back (behind_lines (123 ∷ bytes))
  begun (inl none) = all_of (123 ∷ front) back (behind_lines (123 ∷ bytes)) (ap (λ (o : Option (List ℕ)). unwrap_or o (123 ∷ bytes)) none)
  begun (inr p) = record { before = p.2.before; is = ap (λ (o : Option (List ℕ)). unwrap_or o (123 ∷ bytes)) p.1 ∙ p.2.is }

  passed : Reaches (10 ∷ front) back (behind_lines (10 ∷ bytes))
  passed = record { before = again.0.before; is = again.0.is }

  ends : LineReaches (10 ∷ front) back (10 ∷ bytes)
  ends = inr (behind_lines bytes, refl, record { before = again.0.before; is = again.0.is })

  goes : (x : ℕ) → x ≢ 0 → x ≢ 10 → LineReaches front back bytes → LineReaches (x ∷ front) back (x ∷ bytes)
  goes x not_hole not_end (inl none) = inl (behind_on x bytes not_hole not_end ∙ none)
  goes x not_hole not_end (inr p) = inr (p.0, behind_on x bytes not_hole not_end ∙ p.1, record { before = p.2.before; is = p.2.is })

  one_more : Both (b ∷ front) back
  one_more = (
    by_first (λ (x : ℕ). Reaches (x ∷ front) back (behind_lines (x ∷ bytes))) (begun again.1) passed
        (λ x not_open not_empty. all_of (x ∷ front) back (behind_lines (x ∷ bytes)) (rest_stop x bytes not_open not_empty)) b,
    by_byte (λ (x : ℕ). LineReaches (x ∷ front) back (x ∷ bytes)) (inl refl) ends (λ x not_hole not_end. goes x not_hole not_end again.1) b,
  )

reach : (front back : List ℕ) → Both front back
reach [] back = (record { before = []; is = refl }, inl refl)
reach (b ∷ front) back = one_more b front back (reach front back)

-- ---- such a file is damaged

module _ (before after more : List ℕ) (some : AreZeros more → ⊥) where
  abbrev back_of : List ℕ
  back_of = after ++ 10 ∷ 10 ∷ more

  found : (front rest : List ℕ) → rest ≡ front ++ 0 ∷ back_of → HasMoreBehind rest
  found front rest is = record { before = front ++ 0 ∷ after; after = more; is = is ∙ sym (append_assoc front (0 ∷ after) (10 ∷ 10 ∷ more)); more = some }

  by : LineReaches before back_of (before ++ 0 ∷ back_of) → IsDamaged (before ++ 0 ∷ back_of)
  by (inl none) = inr (found before (rest_of (before ++ 0 ∷ back_of)) (ap (λ (o : Option (List ℕ)). unwrap_or o (before ++ 0 ∷ back_of)) none))
  by (inr p) = inr (found p.2.before (rest_of (before ++ 0 ∷ back_of)) (ap (λ (o : Option (List ℕ)). unwrap_or o (before ++ 0 ∷ back_of)) p.1 ∙ p.2.is))

  pub lost_told : IsDamaged (before ++ 0 ∷ (after ++ 10 ∷ 10 ∷ more))
  lost_told = by (reach before (after ++ 10 ∷ 10 ∷ more)).1
