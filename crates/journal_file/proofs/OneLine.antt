-- One line, and what is behind it.
use Rattle.std.proofs.Common.{◌≡◌, ◌≢◌, ◌⊎◌, inl, inr, ⊎_elim, ℕ, List, [], ◌∷◌, ◌++◌, Option, Some, refl, sym, ap, ◌∙◌}
use Rattle.std.specs.Prelude.{unwrap_or}
use Rattle.journal_file.specs.Whole.{with_first, whole, ended, AreLines, IsOneLine, GoesOn}
use Rattle.journal_file.proofs.Lines.{ended_on, line_begins, line_goes}

line_ended : (line more : List ℕ) → IsOneLine line → ended (line ++ 10 ∷ more) ≡ Some (line ++ 10 ∷ whole more)
line_ended [] more one = refl
line_ended (b ∷ bs) more one = ended_on b (bs ++ 10 ∷ more) one.0 one.1 ∙ ap (with_first b) (line_ended bs more one.2)

pub line_counts : (line more : List ℕ) → IsOneLine line → whole (123 ∷ (line ++ 10 ∷ more)) ≡ 123 ∷ (line ++ 10 ∷ whole more)
line_counts line more one = ap (λ (o : Option (List ℕ)). unwrap_or (with_first 123 o) []) (line_ended line more one)

-- a front of what stands behind the first byte of a line, which has an end and whole lines behind it
record Rest (line more some rest : List ℕ) : Type 0 where
  others : List ℕ
  is : some ≡ line ++ 10 ∷ others
  whole : AreLines others
  front : more ≡ others ++ rest

line_rest : (line more some rest : List ℕ) → IsOneLine line → ended some ≡ Some some → line ++ 10 ∷ more ≡ some ++ rest → Rest line more some rest
line_rest line more [] rest one ends is = absurd (cc)
line_rest [] more (s ∷ ss) rest one ends is =
    let first : s ≡ 10 = cc in
    ⊎_elim (λ (p : (s ≡ 10) × AreLines ss). record { others = ss; is = ap (λ (x : ℕ). x ∷ ss) first; whole = p.1; front = (cc) })
    (λ (p : (s ≢ 0) × (s ≢ 10) × (ended ss ≡ Some ss)). absurd (p.1 first)) (line_goes s ss ends)
line_rest (b ∷ bs) more (s ∷ ss) rest one ends is =
    let first : s ≡ b = cc in
    let tail : bs ++ 10 ∷ more ≡ ss ++ rest = cc in
    ⊎_elim (λ (p : (s ≡ 10) × AreLines ss). absurd (one.1 (sym first ∙ p.0)))
    (λ (p : (s ≢ 0) × (s ≢ 10) × (ended ss ≡ Some ss)).
    let on = line_rest bs more ss rest one.2 p.2 tail in
    record { others = on.others; is = ap (λ (x : ℕ). x ∷ ss) first ∙ ap (λ (l : List ℕ). b ∷ l) on.is; whole = on.whole; front = on.front })
    (line_goes s ss ends)

pub line_fronts : (line more some rest : List ℕ) → IsOneLine line → AreLines some → 123 ∷ (line ++ 10 ∷ more) ≡ some ++ rest → (some ≡ []) ⊎ GoesOn line more some rest
line_fronts line more [] rest one are is = inl refl
line_fronts line more (s ∷ ss) rest one are is =
    let p = line_begins s ss are in
    let tail : line ++ 10 ∷ more ≡ ss ++ rest = cc in
    let on = line_rest line more ss rest one p.1 tail in
    inr (record { others = on.others; is = ap (λ (x : ℕ). x ∷ ss) p.0 ∙ ap (λ (l : List ℕ). 123 ∷ l) on.is; whole = on.whole; front = on.front })
