-- The lines of entries, one behind another.
use Rattle.std.proofs.Common.{◌≡◌, ℕ, true, List, [], ◌∷◌, ◌++◌, length, Some, None, refl, sym, ap, ◌∙◌, arith, append_assoc, append-nil, length-append}
use Rattle.std.specs.Prelude.{All}
use Rattle.std.proofs.lemmas.List.Elements.{All-head, All-tail}
use Rattle.osm_base.specs.Parts.{parted}
use Rattle.line_text.specs.Lines.{lines_of}
use Rattle.line_text.specs.OneLine.{is_one_line}
use Rattle.line_text.proofs.LineCuts.{cut_is, same_lines}

-- over the line of an entry
module _ {E : Type 0} (line : E → List ℕ) where
  pub lines-append : (es more : List E) → lines_of line (es ++ more) ≡ lines_of line es ++ lines_of line more
  lines-append [] more = refl
  lines-append (e ∷ es) more = ap (λ (l : List ℕ). line e ++ 10 ∷ l) (lines-append es more) ∙ sym (append_assoc (line e) (10 ∷ lines_of line es) (lines_of line more))

  -- behind a header too
  pub text-append : (header : List ℕ) (es more : List E) → header ++ lines_of line (es ++ more) ≡ (header ++ lines_of line es) ++ lines_of line more
  text-append header es more = ap (λ (l : List ℕ). header ++ l) (lines-append es more) ∙ sym (append_assoc header (lines_of line es) (lines_of line more))

  -- one line more was written
  pub lines_more : (es : List E) (e : E) (text longer : List ℕ) → text ≡ longer ++ lines_of line es → text ++ (line e ++ 10 ∷ []) ≡ longer ++ lines_of line (es ++ e ∷ [])
  lines_more es e text longer is =
      ap (λ (l : List ℕ). l ++ (line e ++ 10 ∷ [])) is ∙ append_assoc longer (lines_of line es) (lines_of line (e ∷ []))
      ∙ ap (λ (l : List ℕ). longer ++ l) (sym (lines-append es (e ∷ [])))

  -- one line more was read
  pub one_more : (text rest bytes behind : List ℕ) (es : List E) (e : E) → text ≡ lines_of line es ++ rest → parted 10 rest ≡ Some (bytes, behind) → bytes ≡ line e
      → text ≡ lines_of line (es ++ e ∷ []) ++ behind
  one_more text rest bytes behind es e is cut same =
      is
      ∙ ap (λ (l : List ℕ). lines_of line es ++ l) (cut_is rest bytes behind cut ∙ ap (λ (l : List ℕ). l ++ 10 ∷ behind) same)
      ∙ ap (λ (l : List ℕ). lines_of line es ++ l) (sym (append_assoc (line e) (10 ∷ []) behind))
      ∙ sym (append_assoc (lines_of line es) (lines_of line (e ∷ [])) behind)
      ∙ ap (λ (l : List ℕ). l ++ behind) (sym (lines-append es (e ∷ [])))

  -- the lines of some entries aren't nothing
  pub some_line : (e : E) (es : List E) → lines_of line (e ∷ es) ≡ [] → ⊥
  some_line e es none =
      let long : length (line e ++ 10 ∷ lines_of line es) ≡ 0 = ap length none in
      let sum = length-append (line e) (10 ∷ lines_of line es) in
      absurd (omega arith)

  -- over what the fields of an entry allow: no byte 10 stands in a line, and a line tells its entry
  module _ (is_entry : E → Type 0) (one : (e : E) → is_entry e → is_one_line (line e) ≡ true) (tell : (e o : E) → is_entry e → is_entry o → line e ≡ line o → e ≡ o) where
    -- what has the lines of these entries in front is the lines of these and others
    pub goes_on : (es os : List E) (rest : List ℕ) → All is_entry es → All is_entry os → lines_of line es ++ rest ≡ lines_of line os
        → (more : List E) × (os ≡ es ++ more) × (rest ≡ lines_of line more) × All is_entry more
    goes_on [] os rest typed others same = (os, refl, same, others)
    goes_on (e ∷ es) [] rest typed others same =
        let long : length ((line e ++ 10 ∷ lines_of line es) ++ rest) ≡ 0 = ap length same in
        let sum = length-append (line e ++ 10 ∷ lines_of line es) rest in
        let line_sum = length-append (line e) (10 ∷ lines_of line es) in
        absurd (omega arith)
    goes_on (e ∷ es) (o ∷ os) rest typed others same =
        let this = All-head is_entry e es typed in
        let other = All-head is_entry o os others in
        let both : line e ++ 10 ∷ (lines_of line es ++ rest) ≡ line o ++ 10 ∷ lines_of line os = sym (append_assoc (line e) (10 ∷ lines_of line es) rest) ∙ same in
        let parts = same_lines (line e) (line o) (lines_of line es ++ rest) (lines_of line os) (one e this) (one o other) both in
        let more = goes_on es os rest (All-tail is_entry e es typed) (All-tail is_entry o os others) parts.1 in
        let same_entry : e ≡ o = tell e o this other parts.0 in
        (more.0, ap (λ (x : E). x ∷ os) (sym same_entry) ∙ ap (λ (l : List E). e ∷ l) more.1, more.2, more.3)

    -- a text is the lines of one list at most
    pub only_one : (es os : List E) → All is_entry es → All is_entry os → lines_of line es ≡ lines_of line os → es ≡ os
    only_one es os typed others same =
        let more = goes_on es os [] typed others (append-nil (lines_of line es) ∙ same) in by more.0 more.1 more.2
      where
        by : (more : List E) → os ≡ es ++ more → [] ≡ lines_of line more → es ≡ os
        by [] same none = sym (same ∙ append-nil es)
        by (m ∷ ms) same none = absurd (some_line m ms (sym none))
