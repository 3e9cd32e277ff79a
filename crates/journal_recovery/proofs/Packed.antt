-- Lines with empty ones among them.
use Rattle.std.proofs.Common.{◌≡◌, ◌⊎◌, inl, inr, ⊎_elim, ℕ, Bool, true, false, cond, not, List, [], ◌∷◌, ◌++◌, length, Some, None, refl, sym, ap, ◌∙◌, subst, arith, append_assoc, length-append}
use Rattle.std.specs.Prelude.{All, ◌==◌}
use Rattle.std.proofs.lemmas.Bool.{and_parts, not-true, eqb-true, eqb-false, cond-false}
use Rattle.std.proofs.lemmas.List.Elements.{All-nil}
use Rattle.osm_base.specs.Parts.{parted}
use Rattle.journal_file.specs.Whole.{packed, packed_line}
use Rattle.line_text.specs.Cut.{IsCut}
use Rattle.line_text.specs.Lines.{lines_of}
use Rattle.line_text.specs.OneLine.{is_one_line}
use Rattle.line_text.proofs.LineCuts.{cut_at, cut_is, first_line, uncut_line}
use Rattle.journal_recovery.specs.Header.{is_header}
use Rattle.journal_recovery.specs.Parts.{AreOf, AreOfNone}
use Rattle.journal_recovery.proofs.InParts.{joined, no_rest, refused_front, refused_back}

-- ---- what is cut behind a byte 10

abbrev Ended : List ℕ → Type 0
Ended l = (b : List ℕ) × (l ≡ b ++ 10 ∷ [])

abbrev EndedOrNone : List ℕ → Type 0
EndedOrNone l = (l ≡ []) ⊎ Ended l

-- at the beginning of a line, and in one
abbrev Both : List ℕ → List ℕ → List ℕ → Type 0
Both x y back = ((packed x ≡ packed y ++ packed back) × EndedOrNone (packed y)) × ((packed_line x ≡ packed_line y ++ packed back) × Ended (packed_line y))

ended_on : (b : ℕ) (l : List ℕ) → Ended l → Ended (b ∷ l)
ended_on b l e = (b ∷ e.0, ap (λ (m : List ℕ). b ∷ m) e.1)

ended_at : (b : ℕ) (l : List ℕ) → b ≡ 10 → EndedOrNone l → Ended (b ∷ l)
ended_at b l is (inl none) = ([], ap (λ (m : List ℕ). b ∷ m) none ∙ ap (λ (x : ℕ). x ∷ []) is)
ended_at b l is (inr e) = ended_on b l e

both_on : (b : ℕ) (x y back : List ℕ) → Both x y back → Both (b ∷ x) (b ∷ y) back
both_on b x y back again = by (b == 10) refl
  where
    by : (t : Bool) → (b == 10) ≡ t
        → ((cond t (packed x) (b ∷ packed_line x) ≡ cond t (packed y) (b ∷ packed_line y) ++ packed back) × EndedOrNone (cond t (packed y) (b ∷ packed_line y)))
        × ((b ∷ cond t (packed x) (packed_line x) ≡ (b ∷ cond t (packed y) (packed_line y)) ++ packed back) × Ended (b ∷ cond t (packed y) (packed_line y)))
    by true e = (again.0, (ap (λ (l : List ℕ). b ∷ l) again.0.0, ended_at b (packed y) (eqb-true b 10 e) again.0.1))
    by false e =
        let line = ap (λ (l : List ℕ). b ∷ l) again.1.0 in
        let end = ended_on b (packed_line y) again.1.1 in
        ((line, inr end), (line, end))

both : (before back : List ℕ) → Both (before ++ 10 ∷ back) (before ++ 10 ∷ []) back
both [] back = ((refl, inl refl), (refl, ([], refl)))
both (b ∷ before) back = both_on b (before ++ 10 ∷ back) (before ++ 10 ∷ []) back (both before back)

pub packed_joined : (text front back : List ℕ) → IsCut text front back → packed text ≡ packed front ++ packed back
packed_joined text front back cut = ap packed cut.is ∙ (both cut.before back).0.0 ∙ ap (λ (l : List ℕ). packed l ++ packed back) (sym cut.front_is)

-- it is cut so too, or nothing but empty lines stands in front
packed_cut : (text front back : List ℕ) → IsCut text front back → IsCut (packed text) (packed front) (packed back) ⊎ ((packed front ≡ []) × (packed text ≡ packed back))
packed_cut text front back cut = by (both cut.before back).0
  where
    by : (packed (cut.before ++ 10 ∷ back) ≡ packed (cut.before ++ 10 ∷ []) ++ packed back) × EndedOrNone (packed (cut.before ++ 10 ∷ []))
        → IsCut (packed text) (packed front) (packed back) ⊎ ((packed front ≡ []) × (packed text ≡ packed back))
    by (is, inl none) = inr (ap packed cut.front_is ∙ none, ap packed cut.is ∙ is ∙ ap (λ (l : List ℕ). l ++ packed back) none)
    by (is, inr e) = inl (record {
      before = e.0;
      front_is = ap packed cut.front_is ∙ e.1;
      is = ap packed cut.is ∙ is ∙ ap (λ (l : List ℕ). l ++ packed back) e.1 ∙ append_assoc e.0 (10 ∷ []) (packed back);
    })

module _ {E : Type 0} (line : E → List ℕ) (lines : List E → List ℕ) (is_entry : E → Type 0) (lines_are : (es : List E) → lines es ≡ lines_of line es) where
  none_of : (es : List E) → lines_of line es ≡ [] → es ≡ []
  none_of [] is = refl
  none_of (e ∷ es) is = absurd (omega (arith, ap length is, length-append (line e) (10 ∷ lines_of line es)))

  pub joined_packed : (text front back : List ℕ) (es more all : List E) → IsCut text front back → AreOf lines is_entry (packed front) es → AreOf lines is_entry (packed back) more
      → all ≡ es ++ more → AreOf lines is_entry (packed text) all
  joined_packed text front back es more all cut first second is =
      ⊎_elim (λ (there : IsCut (packed text) (packed front) (packed back)). joined line lines is_entry lines_are (packed text) (packed front) (packed back) es more all there first second is)
      (λ (p : (packed front ≡ []) × (packed text ≡ packed back)).
      let none : es ≡ [] = none_of es (sym (lines_are es) ∙ sym first.is ∙ p.0) in
      let same : all ≡ more = is ∙ ap (λ (l : List E). l ++ more) none in
      record { is = p.1 ∙ second.is ∙ ap lines (sym same); typed = subst (All is_entry) (sym same) second.typed })
      (packed_cut text front back cut)

  module _ (one : (e : E) → is_entry e → is_one_line (line e) ≡ true) where
    pub refused_front_packed : (text front back : List ℕ) → IsCut text front back → AreOfNone lines is_entry (packed front) → AreOfNone lines is_entry (packed text)
    refused_front_packed text front back cut none =
        ⊎_elim (λ (there : IsCut (packed text) (packed front) (packed back)). refused_front line lines is_entry lines_are one (packed text) (packed front) (packed back) there none)
        (λ (p : (packed front ≡ []) × (packed text ≡ packed back)). λ es are. none [] (record { is = p.0 ∙ sym (lines_are []); typed = All-nil is_entry }))
        (packed_cut text front back cut)

    pub refused_back_packed : (text front back : List ℕ) → IsCut text front back → AreOfNone lines is_entry (packed back) → AreOfNone lines is_entry (packed text)
    refused_back_packed text front back cut none =
        ⊎_elim (λ (there : IsCut (packed text) (packed front) (packed back)). refused_back line lines is_entry lines_are one (packed text) (packed front) (packed back) there none)
        (λ (p : (packed front ≡ []) × (packed text ≡ packed back)). λ es are. none es (record { is = sym p.1 ∙ are.is; typed = are.typed }))
        (packed_cut text front back cut)

-- ---- lines one after another

packed_on : (b : ℕ) (bs : List ℕ) → (b == 10) ≡ false → packed (b ∷ bs) ≡ b ∷ packed_line bs
packed_on b bs other = cond-false (b == 10) (packed bs) (b ∷ packed_line bs) other

line_on : (b : ℕ) (bs : List ℕ) → (b == 10) ≡ false → packed_line (b ∷ bs) ≡ b ∷ packed_line bs
line_on b bs other = ap (λ (l : List ℕ). b ∷ l) (cond-false (b == 10) (packed bs) (packed_line bs) other)

line_first : (line behind : List ℕ) → is_one_line line ≡ true → packed_line (line ++ 10 ∷ behind) ≡ line ++ 10 ∷ packed behind
line_first [] behind one = refl
line_first (b ∷ line) behind one =
    let p = and_parts (not (b == 10)) (is_one_line line) one in
    line_on b (line ++ 10 ∷ behind) (not-true (b == 10) p.0) ∙ ap (λ (l : List ℕ). b ∷ l) (line_first line behind p.1)

line_alone : (line : List ℕ) → is_one_line line ≡ true → packed_line line ≡ line
line_alone [] one = refl
line_alone (b ∷ line) one =
    let p = and_parts (not (b == 10)) (is_one_line line) one in
    line_on b line (not-true (b == 10) p.0) ∙ ap (λ (l : List ℕ). b ∷ l) (line_alone line p.1)

packed_first : (line behind : List ℕ) → is_one_line line ≡ true → (line ≡ [] → ⊥) → packed (line ++ 10 ∷ behind) ≡ line ++ 10 ∷ packed behind
packed_first [] behind one some = absurd (some refl)
packed_first (b ∷ line) behind one some =
    let p = and_parts (not (b == 10)) (is_one_line line) one in
    packed_on b (line ++ 10 ∷ behind) (not-true (b == 10) p.0) ∙ ap (λ (l : List ℕ). b ∷ l) (line_first line behind p.1)

pub cut_packed : (rest line behind : List ℕ) → parted 10 rest ≡ Some (line, behind) → (line ≡ [] → ⊥) → parted 10 (packed rest) ≡ Some (line, packed behind)
cut_packed rest line behind cut some =
    let one = first_line rest line behind cut in
    ap (parted 10) (ap packed (cut_is rest line behind cut) ∙ packed_first line behind one some) ∙ cut_at line (packed behind) one

pub empty_packed : (rest line behind : List ℕ) → parted 10 rest ≡ Some (line, behind) → line ≡ [] → packed rest ≡ packed behind
empty_packed rest line behind cut none = ap packed (cut_is rest line behind cut ∙ ap (λ (l : List ℕ). l ++ 10 ∷ behind) none)

pub uncut_packed : (rest : List ℕ) → parted 10 rest ≡ None → packed rest ≡ rest
uncut_packed [] cut = refl
uncut_packed (b ∷ rest) cut =
    let p = and_parts (not (b == 10)) (is_one_line rest) (uncut_line (b ∷ rest) cut) in
    packed_on b rest (not-true (b == 10) p.0) ∙ ap (λ (l : List ℕ). b ∷ l) (line_alone rest p.1)

-- ---- a header

-- what stands behind it is lines
pub behind_header : (header lines : List ℕ) → is_header header ≡ true → packed_line (header ++ lines) ≡ header ++ packed lines
behind_header [] lines is = absurd (cc)
behind_header (b ∷ header) lines is = by (b == 10) refl is (λ more. behind_header header lines more)
  where
    by : (t : Bool) → (b == 10) ≡ t → cond t (length header == 0) (is_header header) ≡ true → (is_header header ≡ true → packed_line (header ++ lines) ≡ header ++ packed lines)
        → b ∷ cond t (packed (header ++ lines)) (packed_line (header ++ lines)) ≡ b ∷ (header ++ packed lines)
    by true e empty again = let alone = no_rest header empty in ap (λ (l : List ℕ). b ∷ packed (l ++ lines)) alone ∙ ap (λ (l : List ℕ). b ∷ (l ++ packed lines)) (sym alone)
    by false e more again = ap (λ (l : List ℕ). b ∷ l) (again more)

-- what begins with it once its empty lines are gone begins with it before
pub begins_packed : (header raw more : List ℕ) → is_header header ≡ true → packed_line raw ≡ header ++ more → (rest : List ℕ) × (raw ≡ header ++ rest)
begins_packed [] raw more is same = absurd (cc)
begins_packed (b ∷ header) [] more is same = absurd (cc)
begins_packed (b ∷ header) (x ∷ raw) more is same = by (b == 10) refl is (x == 10) refl same (λ so tail. begins_packed header raw more so tail)
  where
    by : (t : Bool) → (b == 10) ≡ t → cond t (length header == 0) (is_header header) ≡ true → (u : Bool) → (x == 10) ≡ u → x ∷ cond u (packed raw) (packed_line raw) ≡ b ∷ (header ++ more)
        → (is_header header ≡ true → packed_line raw ≡ header ++ more → (rest : List ℕ) × (raw ≡ header ++ rest)) → (rest : List ℕ) × (x ∷ raw ≡ b ∷ (header ++ rest))
    by true e empty u f is again =
        let first : x ≡ b = cc in
        (raw, ap (λ (y : ℕ). y ∷ raw) first ∙ ap (λ (l : List ℕ). b ∷ (l ++ raw)) (sym (no_rest header empty)))
    by false e more_is true f is again =
        let first : x ≡ b = cc in
        absurd (omega (arith, eqb-true x 10 f, first, eqb-false b 10 e))
    by false e more_is false f is again =
        let first : x ≡ b = cc in
        let tail : packed_line raw ≡ header ++ more = cc in
        let p = again more_is tail in
        (p.0, ap (λ (y : ℕ). y ∷ raw) first ∙ ap (λ (l : List ℕ). b ∷ l) p.1)
