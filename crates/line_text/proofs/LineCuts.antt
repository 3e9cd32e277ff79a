-- A text that is cut at the ends of its lines.
use Rattle.std.proofs.Common.{◌≡◌, ℕ, suc, ◌+◌, Bool, true, false, cond, not, List, [], ◌∷◌, ◌++◌, length, take, Option, Some, None, refl, sym, ap, ◌∙◌, inl, inr, ◌⊎◌, arith, take_all}
use Rattle.std.specs.Prelude.{◌==◌, ◌&&◌}
use Rattle.std.specs.List.{position_or_len}
use Rattle.std.proofs.lemmas.Bool.{and_parts, not-true, true≢false}
use Rattle.osm_base.specs.Parts.{is_byte, parted}
use Rattle.line_text.specs.OneLine.{is_one_line}
use Rattle.line_text.proofs.Cuts.{cut_place, cut_text, cut_there, uncut_place}

-- ---- what a cut gives

abbrev Cut : Type 0
Cut = Option (List ℕ × List ℕ)

pub some_cut : (a b : List ℕ × List ℕ) → Some a ≡ Some b → a ≡ b
some_cut a b e = cc

pub no_cut : (a : List ℕ × List ℕ) → ◌≡◌ {A = Cut} (Some a) None → ⊥
no_cut a e = cc

-- what was cut is the text
pub cut_is : (text first rest : List ℕ) → parted 10 text ≡ Some (first, rest) → text ≡ first ++ 10 ∷ rest
cut_is = cut_text 10

-- what has a part before a byte 10 is not empty
pub not_empty : (rest bytes behind : List ℕ) → parted 10 rest ≡ Some (bytes, behind) → rest ≡ [] → ⊥
not_empty rest bytes behind cut none = no_cut (bytes, behind) (sym cut ∙ ap (parted 10) none)

-- ---- one line

-- no byte 10 stands before the first one
line_before : (bs : List ℕ) → is_one_line (take (position_or_len (is_byte 10) bs) bs) ≡ true
line_before [] = refl
line_before (b ∷ bs) = by (b == 10) refl (line_before bs)
  where
    by : (t : Bool) → (b == 10) ≡ t → is_one_line (take (position_or_len (is_byte 10) bs) bs) ≡ true → is_one_line (take (cond (not t) (1 + position_or_len (is_byte 10) bs) 0) (b ∷ bs)) ≡ true
    by true e again = refl
    by false e again =
        let n = position_or_len (is_byte 10) bs in
        let step : 1 + n ≡ suc n = omega arith in
        ap (λ (m : ℕ). is_one_line (take m (b ∷ bs))) step ∙ ap (λ (t : Bool). not t && is_one_line (take n bs)) e ∙ again

pub first_line : (text first rest : List ℕ) → parted 10 text ≡ Some (first, rest) → is_one_line first ≡ true
first_line text first rest is = ap is_one_line (sym (cut_place 10 text first rest is).front) ∙ line_before text

pub uncut_line : (text : List ℕ) → parted 10 text ≡ None → is_one_line text ≡ true
uncut_line text is =
    let all : take (position_or_len (is_byte 10) text) text ≡ text = ap (λ (n : ℕ). take n text) (uncut_place 10 text is) ∙ take_all (length text) text (omega arith) in
    ap is_one_line (sym all) ∙ line_before text

all_before : (bs : List ℕ) → is_one_line bs ≡ true → position_or_len (is_byte 10) bs ≡ length bs
all_before [] h = refl
all_before (b ∷ bs) h =
    let p = and_parts (not (b == 10)) (is_one_line bs) h in
    ap (λ (t : Bool). cond t (1 + position_or_len (is_byte 10) bs) 0) p.0 ∙ ap (λ (n : ℕ). 1 + n) (all_before bs p.1) ∙ omega arith

-- a line is cut at the byte 10 behind it
pub cut_at : (bytes more : List ℕ) → is_one_line bytes ≡ true → parted 10 (bytes ++ 10 ∷ more) ≡ Some (bytes, more)
cut_at bytes more one = cut_there 10 bytes more (all_before bytes one)

-- what begins with a line is cut behind it, and nowhere else
pub line_cut : (line rest text bytes behind : List ℕ) → is_one_line line ≡ true → text ≡ line ++ 10 ∷ rest → parted 10 text ≡ Some (bytes, behind) → (bytes ≡ line) × (behind ≡ rest)
line_cut line rest text bytes behind one is cut =
    let pair = some_cut (bytes, behind) (line, rest) (sym cut ∙ ap (parted 10) is ∙ cut_at line rest one) in
    (ap (λ (p : List ℕ × List ℕ). p.0) pair, ap (λ (p : List ℕ × List ℕ). p.1) pair)

-- what begins with a line is cut
pub not_uncut : (line rest text : List ℕ) → is_one_line line ≡ true → text ≡ line ++ 10 ∷ rest → parted 10 text ≡ None → ⊥
not_uncut line rest text one is cut = no_cut (line, rest) (sym (ap (parted 10) is ∙ cut_at line rest one) ∙ cut)

-- two lines with something behind them
pub same_lines : (a b x y : List ℕ) → is_one_line a ≡ true → is_one_line b ≡ true → a ++ 10 ∷ x ≡ b ++ 10 ∷ y → (a ≡ b) × (x ≡ y)
same_lines a b x y one other same = line_cut b y (a ++ 10 ∷ x) a x other same (cut_at a x one)

-- a line, in front of what begins with other bytes before a byte 10: these are the line, or go on behind it
pub line_first : (line bytes x y : List ℕ) → is_one_line line ≡ true → line ++ 10 ∷ x ≡ bytes ++ 10 ∷ y
    → ((bytes ≡ line) × (x ≡ y)) ⊎ ((more : List ℕ) × (bytes ≡ line ++ 10 ∷ more) × (x ≡ more ++ 10 ∷ y))
line_first [] [] x y one same = let rest : x ≡ y = cc in inl (refl, rest)
line_first [] (b ∷ bytes) x y one same =
    let first : b ≡ 10 = cc in let rest : x ≡ bytes ++ 10 ∷ y = cc in
    inr (bytes, ap (λ c. c ∷ bytes) first, rest)
line_first (c ∷ line) [] x y one same =
    let first : c ≡ 10 = cc in
    let other = and_parts (not (c == 10)) (is_one_line line) one in
    absurd (true≢false (sym (ap (λ d. d == 10) first) ∙ not-true (c == 10) other.0))
line_first (c ∷ line) (b ∷ bytes) x y one same =
    let first : b ≡ c = cc in
    let rest : line ++ 10 ∷ x ≡ bytes ++ 10 ∷ y = cc in
    let other = and_parts (not (c == 10)) (is_one_line line) one in
    by (line_first line bytes x y other.1 rest) first
  where
    by : ((bytes ≡ line) × (x ≡ y)) ⊎ ((more : List ℕ) × (bytes ≡ line ++ 10 ∷ more) × (x ≡ more ++ 10 ∷ y)) → b ≡ c
        → ((b ∷ bytes ≡ c ∷ line) × (x ≡ y)) ⊎ ((more : List ℕ) × (b ∷ bytes ≡ c ∷ (line ++ 10 ∷ more)) × (x ≡ more ++ 10 ∷ y))
    by (inl p) first = inl (cc (p.0, first), p.1)
    by (inr p) first = inr (p.0, cc (p.1, first), p.2)
