-- The entries of a text that is read in parts.
use Rattle.std.proofs.Common.{◌≡◌, ℕ, true, false, List, [], ◌∷◌, ◌++◌, length, Some, None, refl, sym, ap, ◌∙◌, subst, arith, inl, inr, ◌⊎◌, append_assoc, length-append}
use Rattle.std.specs.Prelude.{All, ◌==◌}
use Rattle.std.proofs.lemmas.Bool.{true≢false, eqb-true}
use Rattle.std.proofs.lemmas.List.Elements.{All-head, All-tail, All-nil, All-cons, All-append}
use Rattle.osm_base.specs.Parts.{parted}
use Rattle.line_text.specs.Cut.{IsCut}
use Rattle.line_text.specs.Lines.{lines_of}
use Rattle.line_text.specs.OneLine.{is_one_line}
use Rattle.line_text.proofs.LineCuts.{line_cut, line_first, not_empty, not_uncut}
use Rattle.line_text.proofs.LinesOf as of
use Rattle.journal_recovery.specs.Parts.{AreOf, AreOfNone}

-- whether anything is left
pub some_rest : (rest : List ℕ) → (length rest == 0) ≡ false → rest ≡ [] → ⊥
some_rest rest e none = true≢false (sym (ap (λ (xs : List ℕ). length xs == 0) none) ∙ e)

pub no_rest : (rest : List ℕ) → (length rest == 0) ≡ true → rest ≡ []
no_rest [] e = refl
no_rest (b ∷ rest) e = absurd (omega (arith, eqb-true (length (b ∷ rest)) 0 e))

-- over the line of an entry, those of entries, and what the fields of an entry allow
module _ {E : Type 0} (line : E → List ℕ) (lines : List E → List ℕ) (is_entry : E → Type 0) (lines_are : (es : List E) → lines es ≡ lines_of line es) where
  pub lines-append : (es more : List E) → lines (es ++ more) ≡ lines es ++ lines more
  lines-append es more =
      lines_are (es ++ more) ∙ of.lines-append line es more
      ∙ ap (λ (l : List ℕ). l ++ lines_of line more) (sym (lines_are es)) ∙ ap (λ (l : List ℕ). lines es ++ l) (sym (lines_are more))

  -- one line more was read
  pub one_more : (text rest bytes behind : List ℕ) (es : List E) (e : E) → text ≡ lines es ++ rest → parted 10 rest ≡ Some (bytes, behind) → bytes ≡ line e
      → text ≡ lines (es ++ e ∷ []) ++ behind
  one_more text rest bytes behind es e is cut same =
      of.one_more line text rest bytes behind es e (is ∙ ap (λ (l : List ℕ). l ++ rest) (lines_are es)) cut same
      ∙ ap (λ (l : List ℕ). l ++ behind) (sym (lines_are (es ++ e ∷ [])))

  -- ---- each part has lines of its own

  pub joined : (text front back : List ℕ) (es more all : List E) → IsCut text front back → AreOf lines is_entry front es → AreOf lines is_entry back more
      → all ≡ es ++ more → AreOf lines is_entry text all
  joined text front back es more all cut first second is = record {
    is =
        cut.is
        ∙ sym (append_assoc cut.before (10 ∷ []) back)
        ∙ ap (λ (l : List ℕ). l ++ back) (sym cut.front_is ∙ first.is)
        ∙ ap (λ (l : List ℕ). lines es ++ l) second.is
        ∙ sym (lines-append es more)
        ∙ ap lines (sym is);
    typed = subst (All is_entry) (sym is) (All-append is_entry es more first.typed second.typed);
  }

  module _ (one : (e : E) → is_entry e → is_one_line (line e) ≡ true) where
    -- entries whose lines are cut behind a byte 10
    record Split (before back : List ℕ) : Type 0 where
      first : List E
      second : List E
      front : before ++ 10 ∷ [] ≡ lines_of line first
      front_typed : All is_entry first
      behind : back ≡ lines_of line second
      behind_typed : All is_entry second

    split : (es : List E) (before back : List ℕ) → All is_entry es → lines_of line es ≡ before ++ 10 ∷ back → Split before back
    split [] before back typed same =
        let long : length {A = ℕ} [] ≡ length (before ++ 10 ∷ back) = ap length same in
        let sum = length-append before (10 ∷ back) in
        absurd (omega arith)
    split (e ∷ es) before back typed same =
        let this = All-head is_entry e es typed in
        let others = All-tail is_entry e es typed in
        by (line_first (line e) before (lines_of line es) back (one e this) same) this others (λ more. split es more back others)
      where
        by : ((before ≡ line e) × (lines_of line es ≡ back)) ⊎ ((more : List ℕ) × (before ≡ line e ++ 10 ∷ more) × (lines_of line es ≡ more ++ 10 ∷ back))
            → is_entry e → All is_entry es → ((more : List ℕ) → lines_of line es ≡ more ++ 10 ∷ back → Split more back) → Split before back
        by (inl p) this others again = record {
          first = e ∷ [];
          second = es;
          front = ap (λ (l : List ℕ). l ++ 10 ∷ []) p.0;
          front_typed = All-cons is_entry e [] this (All-nil is_entry);
          behind = sym p.1;
          behind_typed = others;
        }
        by (inr p) this others again =
            let rest = again p.0 p.2 in record {
              first = e ∷ rest.first;
              second = rest.second;
              front = ap (λ (l : List ℕ). l ++ 10 ∷ []) p.1 ∙ append_assoc (line e) (10 ∷ p.0) (10 ∷ []) ∙ ap (λ (l : List ℕ). line e ++ 10 ∷ l) rest.front;
              front_typed = All-cons is_entry e rest.first this rest.front_typed;
              behind = rest.behind;
              behind_typed = rest.behind_typed;
            }

    split_text : (text front back : List ℕ) (es : List E) (cut : IsCut text front back) → AreOf lines is_entry text es → Split cut.before back
    split_text text front back es cut are = split es cut.before back are.typed (sym (lines_are es) ∙ sym are.is ∙ cut.is)

    pub refused_front : (text front back : List ℕ) → IsCut text front back → AreOfNone lines is_entry front → AreOfNone lines is_entry text
    refused_front text front back cut none es are =
        let parts = split_text text front back es cut are in
        none parts.first (record { is = cut.front_is ∙ parts.front ∙ sym (lines_are parts.first); typed = parts.front_typed })

    pub refused_back : (text front back : List ℕ) → IsCut text front back → AreOfNone lines is_entry back → AreOfNone lines is_entry text
    refused_back text front back cut none es are = let parts = split_text text front back es cut are in none parts.second (record { is = parts.behind ∙ sym (lines_are parts.second); typed = parts.behind_typed })

    -- ---- lines one after another

    module _ (tell : (e o : E) → is_entry e → is_entry o → line e ≡ line o → e ≡ o) where
      -- what has the lines of these entries in front is the lines of these and others
      pub goes_on : (es os : List E) (rest : List ℕ) → All is_entry es → All is_entry os → lines es ++ rest ≡ lines os
          → (more : List E) × (os ≡ es ++ more) × (rest ≡ lines more) × All is_entry more
      goes_on es os rest typed others same =
          let more = of.goes_on line is_entry one tell es os rest typed others (ap (λ (l : List ℕ). l ++ rest) (sym (lines_are es)) ∙ same ∙ lines_are os) in
          (more.0, more.1, more.2 ∙ sym (lines_are more.0), more.3)

      -- a text is the lines of one list at most
      pub only : (text : List ℕ) (es os : List E) → AreOf lines is_entry text es → AreOf lines is_entry text os → es ≡ os
      only text es os first second = of.only_one line is_entry one tell es os first.typed second.typed (sym (lines_are es) ∙ sym first.is ∙ second.is ∙ lines_are os)

      -- no byte 10 ends the rest
      pub refused_open : (text rest : List ℕ) (es : List E) → text ≡ lines es ++ rest → All is_entry es → (rest ≡ [] → ⊥) → parted 10 rest ≡ None
          → AreOfNone lines is_entry text
      refused_open text rest es is typed some cut os are =
          let more = goes_on es os rest typed are.typed (sym is ∙ are.is) in by more.0 more.2 more.3
        where
          by : (more : List E) → rest ≡ lines more → All is_entry more → ⊥
          by [] same fine = some (same ∙ lines_are [])
          by (m ∷ ms) same fine = not_uncut (line m) (lines_of line ms) rest (one m (All-head is_entry m ms fine)) (same ∙ lines_are (m ∷ ms)) cut

      -- the rest begins with the line of no entry
      pub refused_line : (text rest bytes behind : List ℕ) (es : List E) → text ≡ lines es ++ rest → All is_entry es → parted 10 rest ≡ Some (bytes, behind)
          → ((e : E) → is_entry e → bytes ≡ line e → ⊥) → AreOfNone lines is_entry text
      refused_line text rest bytes behind es is typed cut none os are =
          let more = goes_on es os rest typed are.typed (sym is ∙ are.is) in by more.0 more.2 more.3
        where
          by : (more : List E) → rest ≡ lines more → All is_entry more → ⊥
          by [] same fine = not_empty rest bytes behind cut (same ∙ lines_are [])
          by (m ∷ ms) same fine =
              let this = All-head is_entry m ms fine in
              none m this (line_cut (line m) (lines_of line ms) rest bytes behind (one m this) (same ∙ lines_are (m ∷ ms)) cut).0
