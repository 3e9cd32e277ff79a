-- Whole lines: the bytes that stand for them, and what is behind those.
use Rattle.std.proofs.Common.{◌≡◌, ◌≢◌, ◌⊎◌, inl, inr, ⊎_elim, ℕ, ◌+◌, ◌<◌, ◌≤◌, cond, List, [], ◌∷◌, ◌++◌, length, Option, Some, None, refl, sym, ap, ◌∙◌, subst, arith, append_assoc, append-nil, length-append}
use Rattle.std.specs.Prelude.{◌==◌, unwrap_or}
use Rattle.std.proofs.lemmas.Bool.{cases_eq, cond-false, ne_eqb}
use Rattle.journal_file.specs.Whole.{with_first, whole, ended, text_of, IsText, AreLines, IsBatch, behind_lines, behind_line, rest_of, IsRaw, packed, packed_line}

-- ---- one byte at the front

-- what may begin a line
pub by_first : (P : ℕ → Type 0) → P 123 → P 10 → ((b : ℕ) → b ≢ 123 → b ≢ 10 → P b) → (b : ℕ) → P b
by_first P begun empty other b = elim (cases_eq b 123) [
  | inl is ↦ subst P (sym is) begun
  | inr not_open ↦ elim (cases_eq b 10) [ inl is ↦ subst P (sym is) empty | inr not_empty ↦ other b not_open not_empty ]
]

-- what may stand in a line
pub by_byte : (P : ℕ → Type 0) → P 0 → P 10 → ((b : ℕ) → b ≢ 0 → b ≢ 10 → P b) → (b : ℕ) → P b
by_byte P hole end other b = elim (cases_eq b 0) [
  | inl is ↦ subst P (sym is) hole
  | inr not_hole ↦ elim (cases_eq b 10) [ inl is ↦ subst P (sym is) end | inr not_end ↦ other b not_hole not_end ]
]

pub whole_stop : (b : ℕ) (bs : List ℕ) → b ≢ 123 → b ≢ 10 → whole (b ∷ bs) ≡ []
whole_stop b bs not_open not_empty =
    cond-false (b == 123) (unwrap_or (with_first b (ended bs)) []) (cond (b == 10) (whole bs) []) (ne_eqb b 123 not_open)
    ∙ cond-false (b == 10) (whole bs) [] (ne_eqb b 10 not_empty)

pub rest_stop : (b : ℕ) (bs : List ℕ) → b ≢ 123 → b ≢ 10 → behind_lines (b ∷ bs) ≡ b ∷ bs
rest_stop b bs not_open not_empty =
    cond-false (b == 123) (unwrap_or (behind_line bs) (b ∷ bs)) (cond (b == 10) (behind_lines bs) (b ∷ bs)) (ne_eqb b 123 not_open)
    ∙ cond-false (b == 10) (behind_lines bs) (b ∷ bs) (ne_eqb b 10 not_empty)

pub ended_on : (b : ℕ) (bs : List ℕ) → b ≢ 0 → b ≢ 10 → ended (b ∷ bs) ≡ with_first b (ended bs)
ended_on b bs not_hole not_end =
    cond-false (b == 0) None (cond (b == 10) (Some (b ∷ whole bs)) (with_first b (ended bs))) (ne_eqb b 0 not_hole)
    ∙ cond-false (b == 10) (Some (b ∷ whole bs)) (with_first b (ended bs)) (ne_eqb b 10 not_end)

pub behind_on : (b : ℕ) (bs : List ℕ) → b ≢ 0 → b ≢ 10 → behind_line (b ∷ bs) ≡ behind_line bs
behind_on b bs not_hole not_end =
    cond-false (b == 0) None (cond (b == 10) (Some (behind_lines bs)) (behind_line bs)) (ne_eqb b 0 not_hole)
    ∙ cond-false (b == 10) (Some (behind_lines bs)) (behind_line bs) (ne_eqb b 10 not_end)

packed_on : (b : ℕ) (bs : List ℕ) → b ≢ 10 → packed_line (b ∷ bs) ≡ b ∷ packed_line bs
packed_on b bs not_end = ap (λ (l : List ℕ). b ∷ l) (cond-false (b == 10) (packed bs) (packed_line bs) (ne_eqb b 10 not_end))

-- ---- the parts of bytes

-- at the beginning of a line
pub record Parts (bs : List ℕ) : Type 0 where
  pub raw : List ℕ
  pub is : bs ≡ raw ++ behind_lines bs
  pub stands : (more : List ℕ) → whole (raw ++ more) ≡ whole bs ++ whole more
  pub stops : (more : List ℕ) → behind_lines (raw ++ more) ≡ behind_lines more
  pub packs : packed raw ≡ whole bs
  pub again : whole (whole bs) ≡ whole bs
  pub nothing : whole (behind_lines bs) ≡ []
  pub still : behind_lines (behind_lines bs) ≡ behind_lines bs

-- in a line that is ended
pub record LineParts (bs : List ℕ) : Type 0 where
  pub text : List ℕ
  pub ended_is : ended bs ≡ Some text
  pub raw : List ℕ
  pub rest : List ℕ
  pub is : bs ≡ raw ++ rest
  pub behind : behind_line bs ≡ Some rest
  pub raw_is : IsRaw raw text
  pub packs : packed_line raw ≡ text
  pub again : ended text ≡ Some text
  pub nothing : whole rest ≡ []
  pub still : behind_lines rest ≡ rest

-- in a line that is ended, or isn't
abbrev pub InLine : List ℕ → Type 0
InLine bs = ((ended bs ≡ None) × (behind_line bs ≡ None)) ⊎ LineParts bs

none_there : (bs : List ℕ) → whole bs ≡ [] → behind_lines bs ≡ bs → Parts bs
none_there bs none stays = record {
  raw = [];
  is = sym stays;
  stands = λ more. ap (λ (l : List ℕ). l ++ whole more) (sym none);
  stops = λ more. refl;
  packs = sym none;
  again = ap whole none ∙ sym none;
  nothing = ap whole stays ∙ none;
  still = ap behind_lines stays;
}

-- behind `{`
abbrev opens : Option (List ℕ) → List ℕ
opens o = unwrap_or (with_first 123 o) []

opened : (bs : List ℕ) → InLine bs → Parts (123 ∷ bs)
opened bs (inl p) = none_there (123 ∷ bs) (ap opens p.0) (ap (λ (o : Option (List ℕ)). unwrap_or o (123 ∷ bs)) p.1)
opened bs (inr p) =
    let line : whole (123 ∷ bs) ≡ 123 ∷ p.text = ap opens p.ended_is in
    let rest : behind_lines (123 ∷ bs) ≡ p.rest = ap (λ (o : Option (List ℕ)). unwrap_or o (123 ∷ bs)) p.behind in
    record {
      raw = 123 ∷ p.raw;
      is = ap (λ (l : List ℕ). 123 ∷ l) p.is ∙ ap (λ (l : List ℕ). 123 ∷ (p.raw ++ l)) (sym rest);
      stands = λ more. ap opens (p.raw_is.stands more) ∙ ap (λ (l : List ℕ). l ++ whole more) (sym line);
      stops = λ more. ap (λ (o : Option (List ℕ)). unwrap_or o (123 ∷ (p.raw ++ more))) (p.raw_is.stops more);
      packs = ap (λ (l : List ℕ). 123 ∷ l) p.packs ∙ sym line;
      again = ap whole line ∙ ap opens p.again ∙ sym line;
      nothing = ap whole rest ∙ p.nothing;
      still = ap behind_lines rest ∙ p.still ∙ sym rest;
    }

passed_over : (bs : List ℕ) → Parts bs → Parts (10 ∷ bs)
passed_over bs p = record {
  raw = 10 ∷ p.raw;
  is = ap (λ (l : List ℕ). 10 ∷ l) p.is;
  stands = p.stands;
  stops = p.stops;
  packs = p.packs;
  again = p.again;
  nothing = p.nothing;
  still = p.still;
}

line_ends : (bs : List ℕ) → Parts bs → InLine (10 ∷ bs)
line_ends bs p = inr (record {
  text = 10 ∷ whole bs;
  ended_is = refl;
  raw = 10 ∷ p.raw;
  rest = behind_lines bs;
  is = ap (λ (l : List ℕ). 10 ∷ l) p.is;
  behind = refl;
  raw_is = record { stands = λ more. ap (λ (l : List ℕ). Some (10 ∷ l)) (p.stands more); stops = λ more. ap Some (p.stops more) };
  packs = ap (λ (l : List ℕ). 10 ∷ l) p.packs;
  again = ap (λ (l : List ℕ). Some (10 ∷ l)) p.again;
  nothing = p.nothing;
  still = p.still;
})

line_on : (bs : List ℕ) → InLine bs → (b : ℕ) → b ≢ 0 → b ≢ 10 → InLine (b ∷ bs)
line_on bs (inl p) b not_hole not_end = inl (ended_on b bs not_hole not_end ∙ ap (with_first b) p.0, behind_on b bs not_hole not_end ∙ p.1)
line_on bs (inr p) b not_hole not_end = inr (record {
  text = b ∷ p.text;
  ended_is = ended_on b bs not_hole not_end ∙ ap (with_first b) p.ended_is;
  raw = b ∷ p.raw;
  rest = p.rest;
  is = ap (λ (l : List ℕ). b ∷ l) p.is;
  behind = behind_on b bs not_hole not_end ∙ p.behind;
  raw_is = record {
    stands = λ more. ended_on b (p.raw ++ more) not_hole not_end ∙ ap (with_first b) (p.raw_is.stands more);
    stops = λ more. behind_on b (p.raw ++ more) not_hole not_end ∙ p.raw_is.stops more;
  };
  packs = packed_on b p.raw not_end ∙ ap (λ (l : List ℕ). b ∷ l) p.packs;
  again = ended_on b p.text not_hole not_end ∙ ap (with_first b) p.again;
  nothing = p.nothing;
  still = p.still;
})

pub parts : (bs : List ℕ) → Parts bs × InLine bs
parts [] = (none_there [] refl refl, inl (refl, refl))
parts (b ∷ bs) =
    let p = parts bs in (
      by_first (λ (x : ℕ). Parts (x ∷ bs)) (opened bs p.1) (passed_over bs p.0) (λ x not_open not_empty. none_there (x ∷ bs) (whole_stop x bs not_open not_empty) (rest_stop x bs not_open not_empty)) b,
      by_byte (λ (x : ℕ). InLine (x ∷ bs)) (inl (refl, refl)) (line_ends bs p.0) (λ x not_hole not_end. line_on bs p.1 x not_hole not_end) b,
    )

pub text_parts : (file text : List ℕ) → ended file ≡ Some text → (p : LineParts file) × (p.text ≡ text)
text_parts file text is = by (parts file).1
  where
    by : InLine file → (p : LineParts file) × (p.text ≡ text)
    by (inl none) = absurd (cc)
    by (inr p) = let both : Some p.text ≡ Some text = sym p.ended_is ∙ is in (p, (cc))

-- ---- what isn't shorter packed

short_on : (b : ℕ) (bs : List ℕ) → (length (packed bs) ≤ length bs) × (length (packed_line bs) ≤ length bs)
    → (length (packed (b ∷ bs)) ≤ length (b ∷ bs)) × (length (packed_line (b ∷ bs)) ≤ length (b ∷ bs))
short_on b bs again = elim (cases_eq b 10) [
  | inl is ↦ subst (λ (x : ℕ). (length (packed (x ∷ bs)) ≤ length (x ∷ bs)) × (length (packed_line (x ∷ bs)) ≤ length (x ∷ bs))) (sym is) (omega (arith, again.0), omega (arith, again.0))
  | inr not_end ↦
      let one : length (packed (b ∷ bs)) ≡ length (b ∷ packed_line bs) = ap length (cond-false (b == 10) (packed bs) (b ∷ packed_line bs) (ne_eqb b 10 not_end)) in
      let two : length (packed_line (b ∷ bs)) ≡ length (b ∷ packed_line bs) = ap length (packed_on b bs not_end) in
      (omega (arith, again.1, one), omega (arith, again.1, two))
]

short : (bs : List ℕ) → (length (packed bs) ≤ length bs) × (length (packed_line bs) ≤ length bs)
short [] = (omega arith, omega arith)
short (b ∷ bs) = short_on b bs (short bs)

all_front : (xs ys : List ℕ) → length (xs ++ ys) ≤ length xs → xs ++ ys ≡ xs
all_front xs [] le = append-nil xs
all_front xs (y ∷ ys) le = absurd (omega (arith, le, length-append xs (y ∷ ys)))

-- whole lines stand for themselves
lines_raw : (a : List ℕ) → AreLines a → (parts a).0.raw ≡ a
lines_raw a are =
    let p = (parts a).0 in
    let size : length (p.raw ++ behind_lines a) ≤ length p.raw = omega (arith, ap length (p.packs ∙ are), (short p.raw).0, ap length p.is) in
    sym (p.is ∙ all_front p.raw (behind_lines a) size)

pub lines_more : (a more : List ℕ) → AreLines a → whole (a ++ more) ≡ a ++ whole more
lines_more a more are =
    ap (λ (l : List ℕ). whole (l ++ more)) (sym (lines_raw a are)) ∙ (parts a).0.stands more ∙ ap (λ (l : List ℕ). l ++ whole more) are

pub lines_stop : (a more : List ℕ) → AreLines a → behind_lines (a ++ more) ≡ behind_lines more
lines_stop a more are = ap (λ (l : List ℕ). behind_lines (l ++ more)) (sym (lines_raw a are)) ∙ (parts a).0.stops more

-- and so does a text
pub text_raw : (text : List ℕ) → IsText text → IsRaw text text
text_raw text is =
    let q = text_parts text text is in
    let p = q.0 in
    let size : length (p.raw ++ p.rest) ≤ length p.raw = omega (arith, ap length (p.packs ∙ q.1), (short p.raw).1, ap length p.is) in
    let same : p.raw ≡ text = sym (p.is ∙ all_front p.raw p.rest size) in
    subst (λ (l : List ℕ). IsRaw l text) same (subst (IsRaw p.raw) q.1 p.raw_is)

-- ---- raw bytes

pub raw_text : (raw text more : List ℕ) → IsRaw raw text → text_of (raw ++ more) ≡ text ++ whole more
raw_text raw text more is = ap (λ (o : Option (List ℕ)). unwrap_or o []) (is.stands more)

pub raw_rest : (raw text more : List ℕ) → IsRaw raw text → rest_of (raw ++ more) ≡ behind_lines more
raw_rest raw text more is = ap (λ (o : Option (List ℕ)). unwrap_or o (raw ++ more)) (is.stops more)

pub raw_whole : (raw text : List ℕ) → IsRaw raw text → IsText text
raw_whole raw text is =
    let e : ended (raw ++ []) ≡ Some text = is.stands [] ∙ ap Some (append-nil text) in
    let q = text_parts (raw ++ []) text e in
    subst IsText q.1 q.0.again

pub batch_lines : (batch : List ℕ) → AreLines (whole batch)
batch_lines batch = (parts batch).0.again

batch_more : (batch more : List ℕ) → IsBatch batch → batch ++ more ≡ whole batch ++ 10 ∷ more
batch_more batch more is = ap (λ (l : List ℕ). l ++ more) is ∙ append_assoc (whole batch) (10 ∷ []) more

-- a batch more
pub raw_batch : (raw text batch : List ℕ) → IsRaw raw text → IsBatch batch → IsRaw (raw ++ batch) (text ++ whole batch)
raw_batch raw text batch is ends =
    let lines = whole batch in
    let are = batch_lines batch in record {
      stands = λ more.
          ap ended (append_assoc raw batch more ∙ ap (λ (l : List ℕ). raw ++ l) (batch_more batch more ends))
          ∙ is.stands (lines ++ 10 ∷ more)
          ∙ ap (λ (l : List ℕ). Some (text ++ l)) (lines_more lines (10 ∷ more) are)
          ∙ ap Some (sym (append_assoc text lines (whole more)));
      stops = λ more.
          ap behind_line (append_assoc raw batch more ∙ ap (λ (l : List ℕ). raw ++ l) (batch_more batch more ends))
          ∙ is.stops (lines ++ 10 ∷ more)
          ∙ ap Some (lines_stop lines (10 ∷ more) are);
    }

pub is_batch : (lines : List ℕ) → AreLines lines → (whole (lines ++ 10 ∷ []) ≡ lines) × IsBatch (lines ++ 10 ∷ [])
is_batch lines are =
    let same : whole (lines ++ 10 ∷ []) ≡ lines = lines_more lines (10 ∷ []) are ∙ append-nil lines in
    (same, ap (λ (l : List ℕ). l ++ 10 ∷ []) (sym same))

-- ---- what whole lines begin with

pub line_begins : (b : ℕ) (bs : List ℕ) → AreLines (b ∷ bs) → (b ≡ 123) × (ended bs ≡ Some bs)
line_begins b bs are = by_first (λ (x : ℕ). AreLines (x ∷ bs) → (x ≡ 123) × (ended bs ≡ Some bs)) (λ is. (refl, by (ended bs) refl is)) (λ is. absurd (omega (arith, ap length (p.packs ∙ is), (short p.raw).0, ap length p.is, length-append p.raw (behind_lines bs))))
    (λ x not_open not_empty is. let none : [] ≡ x ∷ bs = sym (whole_stop x bs not_open not_empty) ∙ is in absurd (cc)) b are
  where
    p : Parts bs
    p = (parts bs).0

    by : (o : Option (List ℕ)) → ended bs ≡ o → opens o ≡ 123 ∷ bs → ended bs ≡ Some bs
    by None e is = absurd (cc)
    by (Some found) e is = let same : found ≡ bs = cc in e ∙ ap Some same

pub line_goes : (b : ℕ) (bs : List ℕ) → ended (b ∷ bs) ≡ Some (b ∷ bs) → ((b ≡ 10) × AreLines bs) ⊎ ((b ≢ 0) × (b ≢ 10) × (ended bs ≡ Some bs))
line_goes b bs is =
    by_byte (λ (x : ℕ). ended (x ∷ bs) ≡ Some (x ∷ bs) → ((x ≡ 10) × AreLines bs) ⊎ ((x ≢ 0) × (x ≢ 10) × (ended bs ≡ Some bs))) (λ none. absurd (cc)) (λ same. inl (refl, (cc)))
    (λ x not_hole not_end same. inr (not_hole, not_end, by x (ended bs) refl (sym (ended_on x bs not_hole not_end) ∙ same))) b is
  where
    by : (x : ℕ) (o : Option (List ℕ)) → ended bs ≡ o → with_first x o ≡ Some (x ∷ bs) → ended bs ≡ Some bs
    by x None e same = absurd (cc)
    by x (Some found) e same = let tails : found ≡ bs = cc in e ∙ ap Some tails

-- what begins with a text is one
pub begins_text : (header rest : List ℕ) → IsText header → IsText (text_of (header ++ rest))
begins_text header rest is =
    let raw = text_raw header is in
    let q = text_parts (header ++ rest) (header ++ whole rest) (raw.stands rest) in
    subst IsText (q.1 ∙ sym (raw_text header header rest raw)) q.0.again
