-- The lines of entries are whole lines for a file, and each has one.
use Rattle.std.proofs.Common.{◌≡◌, ℕ, true, not, List, [], ◌∷◌, sym, ap, ◌∙◌}
use Rattle.std.specs.Prelude.{All, ◌==◌}
use Rattle.std.specs.List.{list_all}
use Rattle.std.proofs.lemmas.Bool.{and_parts, not-true, eqb-false}
use Rattle.std.proofs.lemmas.List.Elements.{All-head, All-tail}
use Rattle.line_text.specs.OneLine.{is_one_line}
use Rattle.journal_file.specs.Whole.{IsOneLine}
use Rattle.durable_log.specs.Held.{HaveOneLine}

one_line : (bs : List ℕ) → is_one_line bs ≡ true → list_all (λ b. not (b == 0)) bs ≡ true → IsOneLine bs
one_line [] one full = tt
one_line (b ∷ bs) one full =
    let p = and_parts (not (b == 10)) (is_one_line bs) one in
    let q = and_parts (not (b == 0)) (list_all (λ c. not (c == 0)) bs) full in
    (eqb-false b 0 (not-true (b == 0) q.0), eqb-false b 10 (not-true (b == 10) p.0), one_line bs p.1 q.1)

-- over the line of an entry, which begins with `{`, and what the fields of an entry allow: no byte 10 stands in it, and no byte 0
module _ {E : Type 0} (line : E → List ℕ) (is_entry : E → Type 0) (begins : (e : E) → (rest : List ℕ) × (line e ≡ 123 ∷ rest)) (one : (e : E) → is_entry e → is_one_line (line e) ≡ true)
    (full : (e : E) → is_entry e → list_all (λ b. not (b == 0)) (line e) ≡ true) where
  this_line : (e : E) → is_entry e → (rest : List ℕ) × (line e ≡ 123 ∷ rest) × IsOneLine rest
  this_line e typed =
      let rest = (begins e).0 in
      let is : line e ≡ 123 ∷ rest = (begins e).1 in
      let plain : is_one_line (123 ∷ rest) ≡ true = ap is_one_line (sym is) ∙ one e typed in
      let whole : list_all (λ b. not (b == 0)) (123 ∷ rest) ≡ true = ap (λ (l : List ℕ). list_all (λ b. not (b == 0)) l) (sym is) ∙ full e typed in
      let p = and_parts (not (123 == 10)) (is_one_line rest) plain in
      let q = and_parts (not (123 == 0)) (list_all (λ b. not (b == 0)) rest) whole in
      (rest, is, one_line rest p.1 q.1)

  pub have_one : (es : List E) → All is_entry es → HaveOneLine line es
  have_one [] typed = tt
  have_one (e ∷ es) typed = (this_line e (All-head is_entry e es typed), have_one es (All-tail is_entry e es typed))
