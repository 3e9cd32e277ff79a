-- Bytes of which some are still the zeros that they are written over.
use Rattle.std.proofs.Common.{◌≡◌, ◌≢◌, ◌⊎◌, inl, inr, ⊎_elim, ℕ, zero, suc, ◌+◌, ◌-◌, ◌<◌, ◌≤◌, List, [], ◌∷◌, ◌++◌, length, get_or, Option, Some, None, refl, sym, ap, ◌∙◌, subst, arith, append_assoc, append-nil, length-append}
use Rattle.std.specs.Prelude.{replicate, unwrap_or, ⊤}
use Rattle.journal_file.specs.Whole.{with_first, whole, ended, AreLines, BeginsWith, behind_lines, behind_line}
use Rattle.journal_file.specs.Settled.{AreZeros, BeginsOddly, HasMoreBehind}
use Rattle.journal_file.proofs.Lines.{by_first, by_byte, whole_stop, rest_stop, ended_on, behind_on, parts, lines_stop, line_begins, line_goes}

-- each byte is as it is there, or 0
abbrev pub Fewer : List ℕ → List ℕ → Type 0
Fewer [] [] = ⊤
Fewer [] (y ∷ m) = ⊥
Fewer (x ∷ a) [] = ⊥
Fewer (x ∷ a) (y ∷ m) = ((y ≡ x) ⊎ (y ≡ 0)) × Fewer a m

pub fewer_each : (a m : List ℕ) → length m ≡ length a → ((i : ℕ) → (get_or m i 0 ≡ get_or a i 0) ⊎ (get_or m i 0 ≡ 0)) → Fewer a m
fewer_each [] [] same each = tt
fewer_each [] (y ∷ m) same each = absurd (omega arith)
fewer_each (x ∷ a) [] same each = absurd (omega arith)
fewer_each (x ∷ a) (y ∷ m) same each = (each 0, fewer_each a m (omega arith) (λ i. each (suc i)))

-- ---- the whole lines among them

-- behind a line that was begun: it isn't ended, or it is there whole and what is behind it is a front of what was
abbrev LineFront : List ℕ → List ℕ → Type 0
LineFront a m = (ended m ≡ None) ⊎ ((text : List ℕ) × (rest : List ℕ) × (ended m ≡ Some text) × (ended a ≡ Some (text ++ rest)))

abbrev Fronts : List ℕ → List ℕ → Type 0
Fronts a m = BeginsWith (whole m) (whole a) × LineFront a m

abbrev opens : Option (List ℕ) → List ℕ
opens o = unwrap_or (with_first 123 o) []

line_front : (a m : List ℕ) → LineFront a m → BeginsWith (whole (123 ∷ m)) (whole (123 ∷ a))
line_front a m (inl none) = (whole (123 ∷ a), ap (λ (l : List ℕ). l ++ whole (123 ∷ a)) (sym (ap opens none)))
line_front a m (inr p) = (p.1, ap opens p.3 ∙ ap (λ (l : List ℕ). l ++ p.1) (sym (ap opens p.2)))

no_front : (x : ℕ) (a m : List ℕ) → x ≢ 123 → x ≢ 10 → BeginsWith (whole (x ∷ m)) (whole (x ∷ a))
no_front x a m not_open not_empty = ([], whole_stop x a not_open not_empty ∙ ap (λ (l : List ℕ). l ++ []) (sym (whole_stop x m not_open not_empty)))

on_front : (a m : List ℕ) → LineFront a m → (x : ℕ) → x ≢ 0 → x ≢ 10 → LineFront (x ∷ a) (x ∷ m)
on_front a m (inl none) x not_hole not_end = inl (ended_on x m not_hole not_end ∙ ap (with_first x) none)
on_front a m (inr p) x not_hole not_end =
    inr (x ∷ p.0, p.1, ended_on x m not_hole not_end ∙ ap (with_first x) p.2, ended_on x a not_hole not_end ∙ ap (with_first x) p.3)

pub fronts : (a m : List ℕ) → Fewer a m → Fronts a m
fronts [] [] fewer = (([], refl), inl refl)
fronts [] (y ∷ m) fewer = absurd fewer
fronts (x ∷ a) [] fewer = absurd fewer
fronts (x ∷ a) (y ∷ m) fewer = by (fronts a m fewer.1) fewer.0
  where
    same : Fronts a m → Fronts (x ∷ a) (x ∷ m)
    same f = (
      by_first (λ (b : ℕ). BeginsWith (whole (b ∷ m)) (whole (b ∷ a))) (line_front a m f.1) f.0 (λ b not_open not_empty. no_front b a m not_open not_empty) x,
      by_byte (λ (b : ℕ). LineFront (b ∷ a) (b ∷ m)) (inl refl) (inr (10 ∷ whole m, f.0.0, refl, ap (λ (l : List ℕ). Some (10 ∷ l)) f.0.1)) (λ b not_hole not_end. on_front a m f.1 b not_hole not_end) x,
    )

    by : Fronts a m → (y ≡ x) ⊎ (y ≡ 0) → Fronts (x ∷ a) (y ∷ m)
    by f (inl is) = subst (λ (b : ℕ). Fronts (x ∷ a) (b ∷ m)) (sym is) (same f)
    by f (inr hole) = subst (λ (b : ℕ). Fronts (x ∷ a) (b ∷ m)) (sym hole) ((whole (x ∷ a), refl), inl refl)

-- ---- what is behind those begins no other way

abbrev LineOdd : List ℕ → List ℕ → Type 0
LineOdd a m = (behind_line m ≡ None) ⊎ ((rest : List ℕ) × (was : List ℕ) × (behind_line m ≡ Some rest) × (behind_line a ≡ Some was) × (BeginsOddly rest → BeginsOddly was))

abbrev Odd : List ℕ → List ℕ → Type 0
Odd a m = (BeginsOddly (behind_lines m) → BeginsOddly (behind_lines a)) × LineOdd a m

line_odd : (a m : List ℕ) → LineOdd a m → BeginsOddly (behind_lines (123 ∷ m)) → BeginsOddly (behind_lines (123 ∷ a))
line_odd a m (inl none) odd =
    let at : BeginsOddly (123 ∷ m) = subst BeginsOddly (ap (λ (o : Option (List ℕ)). unwrap_or o (123 ∷ m)) none) odd in
    absurd (at.1 refl)
line_odd a m (inr p) odd =
    subst BeginsOddly (sym (ap (λ (o : Option (List ℕ)). unwrap_or o (123 ∷ a)) p.3))
    (p.4 (subst BeginsOddly (ap (λ (o : Option (List ℕ)). unwrap_or o (123 ∷ m)) p.2) odd))

other_odd : (x : ℕ) (a m : List ℕ) → x ≢ 123 → x ≢ 10 → BeginsOddly (behind_lines (x ∷ m)) → BeginsOddly (behind_lines (x ∷ a))
other_odd x a m not_open not_empty odd =
    let at : BeginsOddly (x ∷ m) = subst BeginsOddly (rest_stop x m not_open not_empty) odd in
    subst BeginsOddly (sym (rest_stop x a not_open not_empty)) at

on_odd : (a m : List ℕ) → LineOdd a m → (x : ℕ) → x ≢ 0 → x ≢ 10 → LineOdd (x ∷ a) (x ∷ m)
on_odd a m (inl none) x not_hole not_end = inl (behind_on x m not_hole not_end ∙ none)
on_odd a m (inr p) x not_hole not_end = inr (p.0, p.1, behind_on x m not_hole not_end ∙ p.2, behind_on x a not_hole not_end ∙ p.3, p.4)

pub odd : (a m : List ℕ) → Fewer a m → Odd a m
odd [] [] fewer = (λ o. o, inl refl)
odd [] (y ∷ m) fewer = absurd fewer
odd (x ∷ a) [] fewer = absurd fewer
odd (x ∷ a) (y ∷ m) fewer = by (odd a m fewer.1) fewer.0
  where
    same : Odd a m → Odd (x ∷ a) (x ∷ m)
    same o = (
      by_first (λ (b : ℕ). BeginsOddly (behind_lines (b ∷ m)) → BeginsOddly (behind_lines (b ∷ a))) (line_odd a m o.1) o.0 (λ b not_open not_empty. other_odd b a m not_open not_empty) x,
      by_byte (λ (b : ℕ). LineOdd (b ∷ a) (b ∷ m)) (inl refl) (inr (behind_lines m, behind_lines a, refl, refl, o.0)) (λ b not_hole not_end. on_odd a m o.1 b not_hole not_end) x,
    )

    by : Odd a m → (y ≡ x) ⊎ (y ≡ 0) → Odd (x ∷ a) (y ∷ m)
    by o (inl is) = subst (λ (b : ℕ). Odd (x ∷ a) (b ∷ m)) (sym is) (same o)
    by o (inr hole) = subst (λ (b : ℕ). Odd (x ∷ a) (b ∷ m)) (sym hole) (λ begins. absurd (begins.0 refl), inl refl)

-- ---- two bytes 10 side by side

pub record Pair (a after : List ℕ) : Type 0 where
  pub front : List ℕ
  pub back : List ℕ
  pub is : a ≡ front ++ 10 ∷ 10 ∷ back
  pub fewer : Fewer back after

kept_byte : (x y : ℕ) → y ≢ 0 → (y ≡ x) ⊎ (y ≡ 0) → x ≡ y
kept_byte x y not_hole (inl is) = sym is
kept_byte x y not_hole (inr hole) = absurd (not_hole hole)

pub pair_was : (before after a : List ℕ) → Fewer a (before ++ 10 ∷ 10 ∷ after) → Pair a after
pair_was [] after [] fewer = absurd fewer
pair_was [] after (x ∷ []) fewer = absurd fewer.1
pair_was [] after (x ∷ z ∷ a) fewer =
    let first : x ≡ 10 = kept_byte x 10 (λ is. absurd (omega (arith, is))) fewer.0 in
    let second : z ≡ 10 = kept_byte z 10 (λ is. absurd (omega (arith, is))) fewer.1.0 in
    record { front = []; back = a; is = ap (λ (b : ℕ). b ∷ z ∷ a) first ∙ ap (λ (b : ℕ). 10 ∷ b ∷ a) second; fewer = fewer.1.1 }
pair_was (b ∷ before) after [] fewer = absurd fewer
pair_was (b ∷ before) after (x ∷ a) fewer =
    let p = pair_was before after a fewer.1 in
    record { front = x ∷ p.front; back = p.back; is = ap (λ (l : List ℕ). x ∷ l) p.is; fewer = p.fewer }

abbrev zeros : ℕ → List ℕ
zeros n = replicate n 0

zero_only : (n : ℕ) (x : ℕ) (front back : List ℕ) → zeros n ≡ front ++ x ∷ back → x ≡ 0
zero_only zero x [] back is = absurd (cc)
zero_only zero x (b ∷ front) back is = absurd (cc)
zero_only (suc n) x [] back is = let first : x ≡ 0 = cc in first
zero_only (suc n) x (b ∷ front) back is = let tail : zeros n ≡ front ++ x ∷ back = cc in zero_only n x front back tail

pub zeros_are : (n : ℕ) (bs : List ℕ) → bs ≡ zeros n → AreZeros bs
zeros_are zero bs is = let none : bs ≡ [] = is in subst AreZeros (sym none) refl
zeros_are (suc n) [] is = refl
zeros_are (suc n) (b ∷ bs) is =
    let first : b ≡ 0 = cc in
    let tail : bs ≡ zeros n = cc in
    ap (λ (x : ℕ). x ∷ bs) first ∙ ap (λ (l : List ℕ). 0 ∷ l) (zeros_are n bs tail)

-- in whole lines with an empty one and zeros behind it they stand at the end alone
abbrev EndsBy : ℕ → List ℕ → Type 0
EndsBy n a = (front back : List ℕ) → a ++ 10 ∷ zeros n ≡ front ++ 10 ∷ 10 ∷ back → AreZeros back

no_ten : (n : ℕ) (front back : List ℕ) → zeros n ≡ front ++ 10 ∷ back → ⊥
no_ten n front back is = let ten : 10 ≡ 0 = zero_only n 10 front back is in absurd (omega (arith, ten))

pair_empty : (n : ℕ) → EndsBy n []
pair_empty n [] back is = let tail : zeros n ≡ 10 ∷ back = cc in absurd (no_ten n [] back tail)
pair_empty n (x ∷ front) back is = let tail : zeros n ≡ front ++ 10 ∷ 10 ∷ back = cc in absurd (no_ten n front (10 ∷ back) tail)

-- behind the end of a line
behind_end : (n : ℕ) (a : List ℕ) → AreLines a → EndsBy n a → EndsBy n (10 ∷ a)
behind_end n [] are again [] back is = let tail : zeros n ≡ back = cc in zeros_are n back (sym tail)
behind_end n (b ∷ a) are again [] back is =
    let first : b ≡ 10 = cc in
    let brace : b ≡ 123 = (line_begins b a are).0 in
    absurd (omega (arith, first, brace))
behind_end n a are again (x ∷ front) back is = let tail : a ++ 10 ∷ zeros n ≡ front ++ 10 ∷ 10 ∷ back = cc in again front back tail

-- behind a byte that ends no line
behind_byte : (n : ℕ) (b : ℕ) (a : List ℕ) → b ≢ 10 → EndsBy n a → EndsBy n (b ∷ a)
behind_byte n b a other again [] back is = let first : b ≡ 10 = cc in absurd (other first)
behind_byte n b a other again (x ∷ front) back is = let tail : a ++ 10 ∷ zeros n ≡ front ++ 10 ∷ 10 ∷ back = cc in again front back tail

-- of whole lines, and of the rest of a line with lines behind it
pub pair_last : (n : ℕ) (a : List ℕ) → (AreLines a → EndsBy n a) × (ended a ≡ Some a → EndsBy n a)
pair_last n [] = (λ are. pair_empty n, λ is. absurd (cc))
pair_last n (b ∷ a) = (lines (pair_last n a), line (pair_last n a))
  where
    lines : (AreLines a → EndsBy n a) × (ended a ≡ Some a → EndsBy n a) → AreLines (b ∷ a) → EndsBy n (b ∷ a)
    lines again are =
        let p = line_begins b a are in
        behind_byte n b a (λ is. absurd (omega (arith, is, p.0))) (again.1 p.1)

    line : (AreLines a → EndsBy n a) × (ended a ≡ Some a → EndsBy n a) → ended (b ∷ a) ≡ Some (b ∷ a) → EndsBy n (b ∷ a)
    line again is = ⊎_elim
        (λ (p : (b ≡ 10) × AreLines a). subst (λ (x : ℕ). EndsBy n (x ∷ a)) (sym p.0) (behind_end n a p.1 (again.0 p.1)))
        (λ (p : (b ≢ 0) × (b ≢ 10) × (ended a ≡ Some a)). behind_byte n b a p.1 (again.1 p.2))
        (line_goes b a is)

pub fewer_zeros : (a m : List ℕ) → Fewer a m → AreZeros a → AreZeros m
fewer_zeros [] [] fewer are = refl
fewer_zeros [] (y ∷ m) fewer are = absurd fewer
fewer_zeros (x ∷ a) [] fewer are = absurd fewer
fewer_zeros (x ∷ a) (y ∷ m) fewer are =
    let first : x ≡ 0 = cc in
    let tail : AreZeros a = cc in
    let hole : y ≡ 0 = ⊎_elim (λ (is : y ≡ x). is ∙ first) (λ (is : y ≡ 0). is) fewer.0 in
    ap (λ (b : ℕ). b ∷ m) hole ∙ ap (λ (l : List ℕ). 0 ∷ l) (fewer_zeros a m fewer.1 tail)

-- ---- what a batch is, where some of it is still zeros

module _ (lines m : List ℕ) (n : ℕ) (are : AreLines lines) (fewer : Fewer (lines ++ 10 ∷ zeros n) m) where
  pub mix_even : BeginsOddly (behind_lines m) → ⊥
  mix_even begins =
      let was : BeginsOddly (behind_lines (lines ++ 10 ∷ zeros n)) = (odd (lines ++ 10 ∷ zeros n) m fewer).0 begins in
      even n (subst BeginsOddly (lines_stop lines (10 ∷ zeros n) are) was)
    where
      even : (k : ℕ) → BeginsOddly (behind_lines (10 ∷ zeros k)) → ⊥
      even zero begins = begins
      even (suc k) begins = begins.0 refl

  pub mix_single : HasMoreBehind (behind_lines m) → ⊥
  mix_single has =
      let p = (parts m).0 in
      let is : m ≡ (p.raw ++ has.before) ++ 10 ∷ 10 ∷ has.after =
      p.is ∙ ap (λ (l : List ℕ). p.raw ++ l) has.is ∙ sym (append_assoc p.raw has.before (10 ∷ 10 ∷ has.after)) in
      let q = pair_was (p.raw ++ has.before) has.after (lines ++ 10 ∷ zeros n) (subst (Fewer (lines ++ 10 ∷ zeros n)) is fewer) in
      has.more (fewer_zeros q.back has.after q.fewer ((pair_last n lines).0 are q.front q.back q.is))

pub zeros_stop : (n : ℕ) → (whole (zeros n) ≡ []) × (behind_lines (zeros n) ≡ zeros n)
zeros_stop zero = (refl, refl)
zeros_stop (suc n) = (refl, refl)

pub zeros_even : (n : ℕ) → BeginsOddly (zeros n) → ⊥
zeros_even zero begins = begins
zeros_even (suc n) begins = begins.0 refl

pub zeros_single : (n : ℕ) → HasMoreBehind (zeros n) → ⊥
zeros_single n has = no_ten n has.before (10 ∷ has.after) has.is
