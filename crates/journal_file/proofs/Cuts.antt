-- The end of a file, cut off behind its text.
use Rattle.std.proofs.Common.{◌≡◌, ◌≢◌, ◌⊎◌, inl, inr, ⊎_elim, ℕ, zero, suc, ◌+◌, ◌-◌, ◌<◌, ◌≤◌, List, [], ◌∷◌, ◌++◌, length, take, drop, Option, Some, None, refl, sym, ap, ◌∙◌, subst, arith, append_assoc, append-nil, length-append, take-append-drop}
use Rattle.std.specs.Prelude.{replicate, unwrap_or}
use Rattle.std.proofs.lemmas.List.{take_at, drop_at}
use Rattle.journal_file.specs.Device.{Cut}
use Rattle.journal_file.specs.Whole.{with_first, whole, ended, text_of, IsText, behind_lines, behind_line, rest_of, IsRaw, packed_line}
use Rattle.journal_file.specs.Settled.{IsRoomy, AreZeros, BeginsOddly, HasMoreBehind, IsDamaged, Keeps}
use Rattle.journal_file.proofs.Lines.{InLine, LineParts, by_first, by_byte, whole_stop, rest_stop, ended_on, behind_on, parts, text_parts, raw_text, raw_rest}

take_past : (xs ys : List ℕ) (m n : ℕ) → m ≡ length xs + n → take m (xs ++ ys) ≡ xs ++ take n ys
take_past [] ys m n is = let same : m ≡ n = omega arith in ap (λ (k : ℕ). take k ys) same
take_past (x ∷ xs) ys zero n is = absurd (omega arith)
take_past (x ∷ xs) ys (suc m) n is = ap (λ (l : List ℕ). x ∷ l) (take_past xs ys m n (omega arith))

-- ---- what stands for nothing does so cut short

no_line : (x : ℕ) (bs : List ℕ) → ended (x ∷ bs) ≡ None → (ended bs ≡ None → (n : ℕ) → (ended (take n bs) ≡ None) × (behind_line (take n bs) ≡ None))
    → (n : ℕ) → (ended (x ∷ take n bs) ≡ None) × (behind_line (x ∷ take n bs) ≡ None)
no_line x bs none again n = by_byte (λ (b : ℕ). ended (b ∷ bs) ≡ None → (ended (b ∷ take n bs) ≡ None) × (behind_line (b ∷ take n bs) ≡ None)) (λ is. (refl, refl)) (λ is. absurd (cc))
    (λ b not_hole not_end is.
    let p = again (by b (ended bs) refl (sym (ended_on b bs not_hole not_end) ∙ is)) n in
    (ended_on b (take n bs) not_hole not_end ∙ ap (with_first b) p.0, behind_on b (take n bs) not_hole not_end ∙ p.1)) x none
  where
    by : (b : ℕ) (o : Option (List ℕ)) → ended bs ≡ o → with_first b o ≡ None → ended bs ≡ None
    by b None e is = e
    by b (Some text) e is = absurd (cc)

pub none_cut : (bs : List ℕ) → ended bs ≡ None → (n : ℕ) → (ended (take n bs) ≡ None) × (behind_line (take n bs) ≡ None)
none_cut bs none zero = (refl, refl)
none_cut [] none (suc n) = (refl, refl)
none_cut (b ∷ bs) none (suc n) = no_line b bs none (λ is k. none_cut bs is k) n

abbrev Stops : List ℕ → Type 0
Stops bs = (whole bs ≡ []) × (behind_lines bs ≡ bs)

not_itself : (x : ℕ) (raw rest bs : List ℕ) → bs ≡ raw ++ rest → rest ≡ x ∷ bs → ⊥
not_itself x raw rest bs is same = absurd (omega (arith, ap length is, ap length same, length-append raw rest))

pub still_cut : (n : ℕ) (bs : List ℕ) → behind_lines bs ≡ bs → Stops (take n bs)
still_cut zero bs is = (refl, refl)
still_cut (suc n) [] is = (refl, refl)
still_cut (suc n) (b ∷ bs) is = by_first (λ (x : ℕ). behind_lines (x ∷ bs) ≡ x ∷ bs → Stops (x ∷ take n bs)) (line (parts bs).1) (λ same. absurd (not_itself 10 (parts bs).0.raw (behind_lines bs) bs (parts bs).0.is same))
    (λ x not_open not_empty same. (whole_stop x (take n bs) not_open not_empty, rest_stop x (take n bs) not_open not_empty)) b is
  where
    line : InLine bs → behind_lines (123 ∷ bs) ≡ 123 ∷ bs → Stops (123 ∷ take n bs)
    line (inl p) same =
        let q = none_cut bs p.0 n in
        (ap (λ (o : Option (List ℕ)). unwrap_or (with_first 123 o) []) q.0, ap (λ (o : Option (List ℕ)). unwrap_or o (123 ∷ take n bs)) q.1)
    line (inr p) same = absurd (not_itself 123 p.raw p.rest bs p.is (sym (ap (λ (o : Option (List ℕ)). unwrap_or o (123 ∷ bs)) p.behind) ∙ same))

-- ---- and makes no damage

odd_cut : (n : ℕ) (bs : List ℕ) → BeginsOddly (take n bs) → BeginsOddly bs
odd_cut zero bs begins = absurd begins
odd_cut (suc n) [] begins = absurd begins
odd_cut (suc n) (b ∷ bs) begins = begins

zeros_front : (xs ys : List ℕ) → AreZeros (xs ++ ys) → AreZeros xs
zeros_front [] ys are = refl
zeros_front (x ∷ xs) ys are =
    let first : x ≡ 0 = cc in
    let tail : AreZeros (xs ++ ys) = cc in
    ap (λ (b : ℕ). b ∷ xs) first ∙ ap (λ (l : List ℕ). 0 ∷ l) (zeros_front xs ys tail)

more_cut : (n : ℕ) (bs : List ℕ) → HasMoreBehind (take n bs) → HasMoreBehind bs
more_cut n bs has = record {
  before = has.before;
  after = has.after ++ drop n bs;
  is =
      sym (take-append-drop n bs)
      ∙ ap (λ (l : List ℕ). l ++ drop n bs) has.is
      ∙ append_assoc has.before (10 ∷ 10 ∷ has.after) (drop n bs);
  more = λ are. has.more (zeros_front has.after (drop n bs) are);
}

-- ---- a file that has a text

module _ (file : List ℕ) (is : IsText (text_of file)) where
  file_ends : ended file ≡ Some (text_of file)
  file_ends = by (ended file) refl is
    where
      by : (o : Option (List ℕ)) → ended file ≡ o → ended (unwrap_or o []) ≡ Some (unwrap_or o []) → ended file ≡ Some (text_of file)
      by None e same = absurd (cc)
      by (Some text) e same = e ∙ ap (λ (o : Option (List ℕ)). Some (unwrap_or o [])) (sym e)

  file_parts : (p : LineParts file) × (p.text ≡ text_of file)
  file_parts = text_parts file (text_of file) file_ends

  pub front : List ℕ
  front = file_parts.0.raw

  pub front_raw : IsRaw front (text_of file)
  unfolding front file_parts
  front_raw = subst (IsRaw file_parts.0.raw) file_parts.1 file_parts.0.raw_is

  rest_is : file_parts.0.rest ≡ rest_of file
  rest_is = sym (ap (λ (o : Option (List ℕ)). unwrap_or o file) file_parts.0.behind)

  pub front_is : file ≡ front ++ rest_of file
  unfolding front file_parts
  front_is = file_parts.0.is ∙ ap (λ (l : List ℕ). file_parts.0.raw ++ l) rest_is

  rest_still : behind_lines (rest_of file) ≡ rest_of file
  rest_still = subst (λ (l : List ℕ). behind_lines l ≡ l) rest_is file_parts.0.still

  module _ (n : ℕ) (size : n + length (rest_of file) ≡ length file) where
    pub front_long : n ≡ length front
    front_long = omega (arith, size, ap length front_is, length-append front (rest_of file))

    pub rest_dropped : drop n file ≡ rest_of file
    rest_dropped = ap (λ (l : List ℕ). drop n l) front_is ∙ drop_at front (rest_of file) n (sym front_long)

    -- any cut keeps the text, and makes no damage
    pub cut_keeps : (c : List ℕ) → Cut n file c → Keeps file c
    cut_keeps c cut =
        let m = length c - n in
        let rest = rest_of file in
        let cut_is : c ≡ front ++ take m rest =
        sym cut.front ∙ ap (λ (l : List ℕ). take (length c) l) front_is ∙ take_past front rest (length c) m (omega (arith, cut.no_shorter, front_long)) in
        let stops = still_cut m rest rest_still in
        let behind = ap rest_of cut_is ∙ raw_rest front (text_of file) (take m rest) front_raw ∙ stops.1 in
        record {
          is = ap text_of cut_is ∙ raw_text front (text_of file) (take m rest) front_raw ∙ ap (λ (l : List ℕ). text_of file ++ l) stops.0 ∙ append-nil (text_of file);
          sound = ⊎_elim (λ (begins : BeginsOddly (rest_of c)). inl (odd_cut m rest (subst BeginsOddly behind begins))) (λ (has : HasMoreBehind (rest_of c)). inr (more_cut m rest (subst HasMoreBehind behind has)));
        }

    pub cut_roomy : (c : List ℕ) → c ≡ take n file → (r : IsRoomy (text_of file) c) × (n ≡ length r.raw)
    cut_roomy c is = (
      record {
        raw = front;
        room = 0;
        stands = front_raw;
        is = is ∙ ap (λ (l : List ℕ). take n l) front_is ∙ take_at front (rest_of file) n (sym front_long) ∙ sym (append-nil front);
      },
      front_long,
    )

    -- zeros stand there already
    pub is_roomy : AreZeros (rest_of file) → (r : IsRoomy (text_of file) file) × (n ≡ length r.raw)
    is_roomy are = (record { raw = front; room = length (rest_of file); stands = front_raw; is = front_is ∙ ap (λ (l : List ℕ). front ++ l) are }, front_long)

-- a file keeps what it is
pub same_keeps : (file c : List ℕ) → c ≡ file → Keeps file c
same_keeps file c same = record { is = ap text_of same; sound = λ damaged. subst IsDamaged same damaged }
