-- What stands before the gate of a text that is cut.
use Rattle.std.proofs.Common.{◌≡◌, ℕ, ◌+◌, ◌≤◌, Bool, true, false, cond, not, List, [], ◌∷◌, ◌++◌, length, refl, ap, ◌∙◌, arith, length-append}
use Rattle.std.specs.Prelude.{◌==◌, ◌&&◌}
use Rattle.std.proofs.lemmas.Bool.{and_parts, not-true}
use Rattle.line_text.specs.OneLine.{is_one_line}
use Rattle.journal_input.specs.Gate.{before_gate_from, before_gate}

-- ---- a text with a line at its front

-- a begun line counts
pub behind_begun : (bs more : List ℕ) → is_one_line bs ≡ true → before_gate_from false (bs ++ more) ≡ bs ++ before_gate_from false more
behind_begun [] more h = refl
behind_begun (b ∷ bs) more h =
    let p = and_parts (not (b == 10)) (is_one_line bs) h in
    ap (λ (t : Bool). b ∷ before_gate_from t (bs ++ more)) (not-true (b == 10) p.0) ∙ ap (λ (l : List ℕ). b ∷ l) (behind_begun bs more p.1)

-- and so does a line that begins with no gate
pub behind_line : (b : ℕ) (bs more : List ℕ) → (b == 35) ≡ false → is_one_line (b ∷ bs) ≡ true → before_gate ((b ∷ bs) ++ more) ≡ (b ∷ bs) ++ before_gate_from false more
behind_line b bs more other h =
    ap (λ (t : Bool). cond t [] (b ∷ before_gate_from (b == 10) (bs ++ more))) other
    ∙ behind_begun (b ∷ bs) more h

-- ---- the front of any text

-- what stands before the gate stands at the front
pub record IsFrontOf (front text : List ℕ) : Type 0 where
  pub rest : List ℕ
  pub is : text ≡ front ++ rest

front_from : (begins : Bool) (text : List ℕ) → IsFrontOf (before_gate_from begins text) text
front_from begins [] = record { rest = []; is = refl }
front_from begins (b ∷ bs) = by (begins && (b == 35)) (front_from (b == 10) bs)
  where
    by : (t : Bool) → IsFrontOf (before_gate_from (b == 10) bs) bs → IsFrontOf (cond t [] (b ∷ before_gate_from (b == 10) bs)) (b ∷ bs)
    by true again = record { rest = b ∷ bs; is = refl }
    by false again = record { rest = again.rest; is = ap (λ (l : List ℕ). b ∷ l) again.is }

pub front_of : (text : List ℕ) → IsFrontOf (before_gate text) text
front_of text = front_from true text

pub no_longer_text : (text : List ℕ) → length (before_gate text) ≤ length text
no_longer_text text = let f = front_of text in omega (arith, ap length f.is, length-append (before_gate text) f.rest)
