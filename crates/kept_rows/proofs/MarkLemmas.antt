-- Marks are written as whole lines.
use Rattle.std.proofs.Common.{◌≡◌, ◌≢◌, ℕ, Bool, true, false, List, [], ◌∷◌, ◌++◌, refl, arith}
use Rattle.journal_file.specs.Whole.{IsOneLine}
use Rattle.durable_log.specs.Held.{HaveOneLine}
use Rattle.kept_rows.specs.Marks.{mark_line, mark_lines}

-- without the byte 10 that ends it
abbrev pub mark : Bool → List ℕ
mark true = 123 ∷ 49 ∷ 125 ∷ []
mark false = 123 ∷ 48 ∷ 125 ∷ []

pub more : (m : Bool) (marks : List Bool) → mark_lines (m ∷ marks) ≡ mark m ++ 10 ∷ mark_lines marks
more true marks = refl
more false marks = refl

two : (x : ℕ) → x ≢ 0 → x ≢ 10 → IsOneLine (x ∷ 125 ∷ [])
two x full one = (full, one, ((λ is. absurd (omega (arith, is))), (λ is. absurd (omega (arith, is))), tt))

pub have_one : (marks : List Bool) → HaveOneLine mark marks
have_one [] = tt
have_one (true ∷ marks) = ((49 ∷ 125 ∷ [], refl, two 49 (λ is. absurd (omega (arith, is))) (λ is. absurd (omega (arith, is)))), have_one marks)
have_one (false ∷ marks) = ((48 ∷ 125 ∷ [], refl, two 48 (λ is. absurd (omega (arith, is))) (λ is. absurd (omega (arith, is)))), have_one marks)
