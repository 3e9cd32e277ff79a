-- What the next byte of a text is, behind more of it.
use Rattle.std.proofs.Common.{◌≡◌, ℕ, ◌+◌, ◌<◌, Bool, true, false, cond, List, [], ◌∷◌, ◌++◌, length, take, slice_index_or, Option, Some, None, refl, sym, ap, ◌∙◌, subst, append_assoc, append-nil, arith, length-append}
use Rattle.std.specs.Prelude.{◌==◌, ◌&&◌}
use Rattle.std.specs.List.{slice_get}
use Rattle.std.proofs.lemmas.List.{take_more}
use Rattle.journal_input.specs.Gate.{before_gate_from, before_gate}
use Rattle.journal_input.specs.Place.{has_gate_first, place_of, next_place, Sees}
use Rattle.journal_input.specs.declared.gate.Place.{Place}
use Rattle.journal_input.specs.declared.gate.Place.TheVariants.{LineStart, InLine, BehindGate}
use Rattle.line_text.specs.OneLine.{is_one_line}
use Rattle.journal_input.proofs.Gates.{behind_line}

-- ---- one more byte

-- all of the text counts, and this is how the rest does
abbrev Counts : Bool → List ℕ → Type 0
Counts begins text = (more : List ℕ) → before_gate (text ++ more) ≡ text ++ before_gate_from begins more

counts_next : (begins : Bool) (b : ℕ) (text : List ℕ) (t : Bool) → Counts begins text → (begins && (b == 35)) ≡ false → (b == 10) ≡ t → Counts t (text ++ b ∷ [])
counts_next begins b text t counts other e more =
    ap before_gate (append_assoc text (b ∷ []) more)
    ∙ counts (b ∷ more)
    ∙ ap (λ (s : Bool). text ++ cond s [] (b ∷ before_gate_from (b == 10) more)) other
    ∙ ap (λ (s : Bool). text ++ b ∷ before_gate_from s more) e
    ∙ sym (append_assoc text (b ∷ []) (before_gate_from t more))

-- behind a gate nothing counts
closed_by : (b : ℕ) (text more : List ℕ) → Counts true text → (b == 35) ≡ true → before_gate (text ++ b ∷ more) ≡ text
closed_by b text more counts is =
    counts (b ∷ more) ∙ ap (λ (s : Bool). text ++ cond s [] (b ∷ before_gate_from (b == 10) more)) is ∙ append-nil text

pub sees_next : (p : Place) (b : ℕ) (text : List ℕ) → Sees p text → Sees (next_place p b) (text ++ b ∷ [])
sees_next LineStart b text sees = by (b == 35) refl (b == 10) refl
  where
    by : (s : Bool) → (b == 35) ≡ s → (t : Bool) → (b == 10) ≡ t → Sees (cond s BehindGate (cond t LineStart InLine)) (text ++ b ∷ [])
    by true e t f =
        λ more.
        let short : length (before_gate ((text ++ b ∷ []) ++ more)) ≡ length text = ap (λ (l : List ℕ). length (before_gate l)) (append_assoc text (b ∷ []) more) ∙ ap length (closed_by b text more sees e) in
        omega (arith, short, length-append text (b ∷ []))
    by false e true f = counts_next true b text true sees e f
    by false e false f = counts_next true b text false sees e f
sees_next InLine b text sees = by (b == 10) refl
  where
    by : (t : Bool) → (b == 10) ≡ t → Sees (cond t LineStart InLine) (text ++ b ∷ [])
    by true f = counts_next false b text true sees refl f
    by false f = counts_next false b text false sees refl f
sees_next BehindGate b text sees =
    λ more.
    let same : length (before_gate ((text ++ b ∷ []) ++ more)) ≡ length (before_gate (text ++ (b ∷ more))) = ap (λ (l : List ℕ). length (before_gate l)) (append_assoc text (b ∷ []) more) in
    omega (arith, same, sees (b ∷ more), length-append text (b ∷ []))

pub sees_nothing : Sees LineStart []
sees_nothing = λ more. refl

-- ---- what it is behind a line that is begun, and behind a gate

pub sees_begun : (text begun : List ℕ) → is_one_line begun ≡ true → has_gate_first begun ≡ false → Sees LineStart text → Sees (place_of begun) (text ++ begun)
sees_begun text [] line other sees = λ more. ap (λ (l : List ℕ). before_gate (l ++ more)) (append-nil text) ∙ sees more ∙ ap (λ (l : List ℕ). l ++ before_gate more) (sym (append-nil text))
sees_begun text (b ∷ bs) line other sees =
    λ more.
    ap before_gate (append_assoc text (b ∷ bs) more)
    ∙ sees ((b ∷ bs) ++ more)
    ∙ ap (λ (l : List ℕ). text ++ l) (behind_line b bs more other line)
    ∙ sym (append_assoc text (b ∷ bs) (before_gate_from false more))

pub before_closed : (text behind : List ℕ) → Sees LineStart text → before_gate (text ++ 35 ∷ behind) ≡ text
before_closed text behind sees = closed_by 35 text behind sees refl

pub sees_closed : (text behind : List ℕ) → Sees LineStart text → Sees BehindGate (text ++ 35 ∷ behind)
sees_closed text behind sees =
    λ more.
    let short : length (before_gate ((text ++ 35 ∷ behind) ++ more)) ≡ length text = ap (λ (l : List ℕ). length (before_gate l)) (append_assoc text (35 ∷ behind) more) ∙ ap length (before_closed text (behind ++ more) sees) in
    omega (arith, short, length-append text (35 ∷ behind))

-- ---- how much of a text counts

pub all_counts : (begins : Bool) (text : List ℕ) → Counts begins text → before_gate text ≡ text
all_counts begins text counts = ap before_gate (sym (append-nil text)) ∙ counts [] ∙ append-nil text

pub less_counts : (text : List ℕ) → Sees BehindGate text → length (before_gate text) < length text
less_counts text sees = let same : length (before_gate (text ++ [])) ≡ length (before_gate text) = ap (λ (l : List ℕ). length (before_gate l)) (append-nil text) in omega (arith, same, sees [])

-- behind a begun line all counts
pub begun_counts : (begun text : List ℕ) → Sees (place_of begun) text → before_gate text ≡ text
begun_counts [] text sees = all_counts true text sees
begun_counts (b ∷ bs) text sees = all_counts false text sees

-- ---- a piece, byte by byte

pub sees_more : (p q : Place) (text piece : List ℕ) (i : ℕ) → i < length piece → Sees p (text ++ take i piece) → q ≡ next_place p (slice_index_or piece i 0) → Sees q (text ++ take (i + 1) piece)
sees_more p q text piece i within sees is =
    let b = slice_index_or piece i 0 in
    let longer : (text ++ take i piece) ++ b ∷ [] ≡ text ++ take (i + 1) piece = append_assoc text (take i piece) (b ∷ []) ∙ ap (λ (l : List ℕ). text ++ l) (sym (take_more piece i 0 within)) in
    subst (λ (r : Place). Sees r (text ++ take (i + 1) piece)) (sym is) (subst (λ (l : List ℕ). Sees (next_place p b) l) longer (sees_next p b (text ++ take i piece) sees))

-- ---- the first byte

pub first_is : (bytes : List ℕ) (b : ℕ) → Some b ≡ slice_get bytes 0 → (b == 35) ≡ has_gate_first bytes
first_is [] b is = cc
first_is (x ∷ xs) b is = let same : b ≡ x = cc in ap (λ (y : ℕ). y == 35) same

pub no_first : (bytes : List ℕ) → None ≡ slice_get bytes 0 → false ≡ has_gate_first bytes
no_first [] is = refl
no_first (x ∷ xs) is = cc
