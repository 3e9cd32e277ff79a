-- Texts behind a header.
use Rattle.std.proofs.Common.{◌≡◌, ℕ, true, false, List, ◌++◌, length, take, drop, sym, ap, ◌∙◌, take-append-drop}
use Rattle.std.specs.Prelude.{nat_eq}
use Rattle.std.specs.Cmp.Lexicographic.{pointwise, same_text, other_text}
use Rattle.std.proofs.Math.Seq.{take-append_seam}
use Rattle.std.proofs.lemmas.List.{append_cancel_left}

-- ---- a text and a header

-- what has this header in front
pub behind_header : (text header rest : List ℕ) → pointwise nat_eq (take (length header) text) header ≡ true → rest ≡ drop (length header) text → text ≡ header ++ rest
behind_header text header rest same is =
    sym (take-append-drop (length header) text)
    ∙ ap (λ (l : List ℕ). l ++ drop (length header) text) (same_text (take (length header) text) header (sym same))
    ∙ ap (λ (l : List ℕ). header ++ l) (sym is)

-- what hasn't
pub not_behind : (text header rest : List ℕ) → pointwise nat_eq (take (length header) text) header ≡ false → text ≡ header ++ rest → ⊥
not_behind text header rest other is =
    other_text (take (length header) text) header (sym other) (ap (λ (l : List ℕ). take (length header) l) is ∙ take-append_seam header rest)

-- over how a journal is written, and the header that is found in front
module _ {E : Type 0} (text_of lines : List E → List ℕ) (header found : List ℕ) (begins : (entries : List E) → text_of entries ≡ header ++ lines entries) (is : found ≡ header) where
  pub begins_found : (entries : List E) → text_of entries ≡ found ++ lines entries
  begins_found entries = begins entries ∙ ap (λ (l : List ℕ). l ++ lines entries) (sym is)

  pub text_is : (text rest : List ℕ) (entries : List E) → text ≡ found ++ rest → rest ≡ lines entries → text ≡ text_of entries
  text_is text rest entries so are = so ∙ ap (λ (l : List ℕ). found ++ l) are ∙ sym (begins_found entries)

  pub lines_are : (text rest : List ℕ) (entries : List E) → text ≡ found ++ rest → text ≡ text_of entries → rest ≡ lines entries
  lines_are text rest entries so same = append_cancel_left found rest (lines entries) (sym so ∙ (same ∙ begins_found entries))

  pub of_none : (text : List ℕ) (entries : List E) → pointwise nat_eq (take (length found) text) found ≡ false → text ≡ text_of entries → ⊥
  of_none text entries other same = not_behind text found (lines entries) other (same ∙ begins_found entries)
