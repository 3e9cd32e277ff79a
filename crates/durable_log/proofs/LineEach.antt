-- Entries that have a line each.
use Rattle.std.proofs.Common.{◌≡◌, ◌⊎◌, ⊎_elim, ℕ, suc, List, [], ◌∷◌, ◌++◌, take, refl, sym, ap, ◌∙◌, arith}
use Rattle.journal_file.specs.Whole.{whole, AreLines, IsOneLine, GoesOn}
use Rattle.durable_log.specs.Held.{HaveOneLine, HaveALineEach}

none_before : (front rest : List ℕ) → [] ≡ front ++ rest → front ≡ []
none_before [] rest is = refl
none_before (x ∷ front) rest is = absurd (cc)

module _ (counts : (line more : List ℕ) → IsOneLine line → whole (123 ∷ (line ++ 10 ∷ more)) ≡ 123 ∷ (line ++ 10 ∷ whole more))
    (fronts : (line more some rest : List ℕ) → IsOneLine line → AreLines some → 123 ∷ (line ++ 10 ∷ more) ≡ some ++ rest → (some ≡ []) ⊎ GoesOn line more some rest)
    {E : Type 0} (line : E → List ℕ) (lines : List E → List ℕ) (none : lines [] ≡ []) (more : (e : E) (es : List E) → lines (e ∷ es) ≡ line e ++ 10 ∷ lines es) where
  -- the lines of one entry and others, by the bytes of its line
  is_line : (e : E) (es : List E) (rest : List ℕ) → line e ≡ 123 ∷ rest → lines (e ∷ es) ≡ 123 ∷ (rest ++ 10 ∷ lines es)
  is_line e es rest is = more e es ∙ ap (λ (l : List ℕ). l ++ 10 ∷ lines es) is

  pub are_lines : (entries : List E) → HaveOneLine line entries → AreLines (lines entries)
  are_lines [] all = ap whole none ∙ sym none
  are_lines (e ∷ es) all =
      let rest = all.0.0 in
      let is = is_line e es rest all.0.1 in
      ap whole is ∙ counts rest (lines es) all.0.2 ∙ ap (λ (l : List ℕ). 123 ∷ (rest ++ 10 ∷ l)) (are_lines es all.1) ∙ sym is

  pub line_each : (entries : List E) → HaveOneLine line entries → HaveALineEach lines entries
  line_each [] all some rest whole is = (0, omega arith, none_before some rest (sym none ∙ is) ∙ sym none)
  line_each (e ∷ es) all some rest whole is =
      let first = all.0.0 in
      ⊎_elim (λ (is_none : some ≡ []). (0, omega arith, is_none ∙ sym none))
      (λ (on : GoesOn first (lines es) some rest).
      let again = line_each es all.1 on.others rest on.whole on.front in
      (suc again.0, omega (arith, again.1), on.is ∙ ap (λ (l : List ℕ). 123 ∷ (first ++ 10 ∷ l)) again.2 ∙ sym (is_line e (take again.0 es) first all.0.1)))
      (fronts first (lines es) some rest all.0.2 whole (sym (is_line e es first all.0.1) ∙ is))
