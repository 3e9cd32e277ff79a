-- Digits without zeros before them are one for each number.
use Rattle.std.proofs.Common.{◌≡◌, ◌≢◌, ℕ, ◌+◌, ◌*◌, ◌-◌, ◌<◌, ◌≤◌, ◌⊎◌, inl, inr, Bool, true, false, ◌&&◌, ◌==◌, nat_lt, List, [], ◌∷◌, ◌++◌, length, take, drop, get_or, refl, sym, ap, subst, ◌∙◌, arith, length-drop}
use Rattle.std.proofs.lemmas.Bool.{and_parts, false≢true}
use Rattle.std.proofs.lemmas.Bool.Decides.{same_from_decides, Decides-eqb, nat_tests, eqb_tells}
use Rattle.std.proofs.lemmas.List.{take-append-drop}
use Rattle.std.proofs.lemmas.List.Folds.{list_all-append, list_all_at}
use Rattle.std.proofs.lemmas.Slice.Eq.{bytes_eq-Decides}
use Rattle.std.proofs.lemmas.Str.{digit_value_digit}
use Rattle.std.specs.Char.{is_ascii_digit, digit_value}
use Rattle.std.specs.Int.{IsInRange}
use Rattle.std.specs.List.{list_all}
use Rattle.std.specs.Str.{bytes_eq}
use Rattle.std.specs.Str.Parse.{digits_value, digits_value_after}
use Rattle.http_wire.specs.Length.{is_numeral, writes_number, without_zeros}

after-append : (n : ℕ) (xs ys : List ℕ) → digits_value_after 10 n (xs ++ ys) ≡ digits_value_after 10 (digits_value_after 10 n xs) ys
after-append n [] ys = refl
after-append n (x ∷ xs) ys = after-append (n * 10 + digit_value x) xs ys

after-ge : (n : ℕ) (ds : List ℕ) → n ≤ digits_value_after 10 n ds
after-ge n [] = omega arith
after-ge n (d ∷ ds) = omega (arith, after-ge (n * 10 + digit_value d) ds)

abbrev IsDigits : List ℕ → Type 0
IsDigits ds = list_all is_ascii_digit ds ≡ true

range_of_digit : (d : ℕ) → is_ascii_digit d ≡ true → IsInRange 48 57 d
range_of_digit d h = grind (arith, nat_tests)

-- the digit, as its value
pub value_of_digit : (d : ℕ) → is_ascii_digit d ≡ true → digit_value d + 48 ≡ d
value_of_digit d h = digit_value_digit d (range_of_digit d h)

digit_below : (d : ℕ) → is_ascii_digit d ≡ true → digit_value d < 10
digit_below d h = let r : IsInRange 48 57 d = range_of_digit d h in omega (arith, value_of_digit d h, r.1)

-- as many digits, behind numbers, that come to one number are the same behind the same
same_length : (m n : ℕ) (xs ys : List ℕ) → IsDigits xs → IsDigits ys → length xs ≡ length ys
    → digits_value_after 10 m xs ≡ digits_value_after 10 n ys → (m ≡ n) × (xs ≡ ys)
same_length m n [] [] p q l e = (e, refl)
same_length m n [] (y ∷ ys) p q l e = absurd (omega arith)
same_length m n (x ∷ xs) [] p q l e = absurd (omega arith)
same_length m n (x ∷ xs) (y ∷ ys) p q l e =
    let p2 = and_parts (is_ascii_digit x) (list_all is_ascii_digit xs) p in
    let q2 = and_parts (is_ascii_digit y) (list_all is_ascii_digit ys) q in
    let more = same_length (m * 10 + digit_value x) (n * 10 + digit_value y) xs ys p2.1 q2.1 (omega arith) e in
    let first : m * 10 + digit_value x ≡ n * 10 + digit_value y = more.0 in
    let x_below = digit_below x p2.0 in
    let y_below = digit_below y q2.0 in
    let same : x ≡ y = omega (arith, value_of_digit x p2.0, value_of_digit y q2.0) in (
      omega arith,
      (λ i. same i ∷ more.1 i),
    )

-- digits that begin with another one than 0 come to more than fewer digits do
not_longer : (x : ℕ) (xs ys : List ℕ) → x ≢ 48 → IsDigits (x ∷ xs) → IsDigits ys → length ys < length (x ∷ xs)
    → ¬ (digits_value_after 10 0 (x ∷ xs) ≡ digits_value_after 10 0 ys)
not_longer x xs ys other p q l e =
    let k = length xs - length ys in
    let front = x ∷ take k xs in
    let back = drop k xs in
    let whole : front ++ back ≡ x ∷ xs = ap (λ l. x ∷ l) (take-append-drop k xs) in
    let passes : (list_all is_ascii_digit front && list_all is_ascii_digit back) ≡ true =
    sym (list_all-append is_ascii_digit front back) ∙ ap (list_all is_ascii_digit) whole ∙ p in
    let back_digits = (and_parts (list_all is_ascii_digit front) (list_all is_ascii_digit back) passes).1 in
    let size : length back ≡ length ys = omega (arith, length-drop k xs) in
    let value : digits_value_after 10 (digits_value_after 10 0 front) back ≡ digits_value_after 10 0 ys =
    sym (after-append 0 front back) ∙ ap (digits_value_after 10 0) whole ∙ e in
    let none : digits_value_after 10 0 front ≡ 0 = (same_length (digits_value_after 10 0 front) 0 back ys back_digits q size value).0 in
    let some = after-ge (0 * 10 + digit_value x) (take k xs) in
    let digit = value_of_digit x (and_parts (is_ascii_digit x) (list_all is_ascii_digit xs) p).0 in
    other (omega (arith, none, some, digit))

-- what the zeros at the front tell of digits
pub record Stripped (digits kept : List ℕ) : Type 0 where
  pub value : digits_value 10 kept ≡ digits_value 10 digits
  pub passes : IsDigits kept
  -- the first of them, if there is one, is not 0
  pub first : (kept ≡ []) ⊎ ((x : ℕ) × (xs : List ℕ) × (kept ≡ x ∷ xs) × (x ≢ 48))

stripped : (ds : List ℕ) → IsDigits ds → Stripped ds (without_zeros ds)
stripped [] p = record { value = refl; passes = refl; first = inl refl }
stripped (d ∷ ds) p =
    let passes = (and_parts (is_ascii_digit d) (list_all is_ascii_digit ds) p).1 in
    by_first (stripped ds passes) (eqb_tells d 48)
  where
    by_first : Stripped ds (without_zeros ds) → (((d == 48) ≡ true) × (d ≡ 48)) ⊎ (((d == 48) ≡ false) × (d ≢ 48))
        → Stripped (d ∷ ds) (without_zeros (d ∷ ds))
    by_first more (inl zero_first) =
        rw zero_first.0 (record {
          value = more.value ∙ ap (λ n. digits_value_after 10 (0 * 10 + digit_value n) ds) (sym zero_first.1);
          passes = more.passes;
          first = more.first;
        })
    by_first more (inr other) = rw other.0 (record { value = refl; passes = p; first = inr (d, ds, refl, other.1) })

pub digit_at : (ds : List ℕ) (i : ℕ) → IsDigits ds → i < length ds → is_ascii_digit (get_or ds i 0) ≡ true
digit_at ds i p below = by_test (is_ascii_digit (get_or ds i 0)) refl
  where
    by_test : (b : Bool) → is_ascii_digit (get_or ds i 0) ≡ b → is_ascii_digit (get_or ds i 0) ≡ true
    by_test true e = e
    by_test false e = absurd (false≢true (sym (list_all_at is_ascii_digit ds i 0 below e) ∙ p))

-- two numerals come to one number where they are the same without their zeros
same_without_zeros : (xs ys : List ℕ) → IsDigits xs → IsDigits ys → digits_value 10 xs ≡ digits_value 10 ys
    → without_zeros xs ≡ without_zeros ys
same_without_zeros xs ys p q e = by_parts s.first t.first
  where
    s : Stripped xs (without_zeros xs)
    s = stripped xs p

    t : Stripped ys (without_zeros ys)
    t = stripped ys q

    same : digits_value_after 10 0 (without_zeros xs) ≡ digits_value_after 10 0 (without_zeros ys)
    same = s.value ∙ e ∙ sym t.value

    Starts : List ℕ → Type 0
    Starts l = (l ≡ []) ⊎ ((x : ℕ) × (more : List ℕ) × (l ≡ x ∷ more) × (x ≢ 48))

    shorter : (l k : List ℕ) → Starts l → IsDigits l → IsDigits k → digits_value_after 10 0 l ≡ digits_value_after 10 0 k → ¬ (length k < length l)
    shorter l k (inl none) dl dk v below = absurd (omega (arith, ap length none))
    shorter l k (inr some) dl dk v below =
        let l_is : l ≡ some.0 ∷ some.1 = some.2 in
        not_longer some.0 some.1 k some.3 (subst IsDigits l_is dl) dk
        (subst (λ (m : List ℕ). length k < length m) l_is below)
        (subst (λ (m : List ℕ). digits_value_after 10 0 m ≡ digits_value_after 10 0 k) l_is v)

    by_parts : Starts (without_zeros xs) → Starts (without_zeros ys) → without_zeros xs ≡ without_zeros ys
    by_parts a b =
        let no = shorter (without_zeros xs) (without_zeros ys) a s.passes t.passes same in
        let nor = shorter (without_zeros ys) (without_zeros xs) b t.passes s.passes (sym same) in
        (same_length 0 0 (without_zeros xs) (without_zeros ys) s.passes t.passes (omega (arith, no, nor)) same).1

-- so the digits tell whether two numerals write one number
pub same_numbers : (text digits : List ℕ) → IsDigits text → IsDigits digits
    → bytes_eq (without_zeros text) (without_zeros digits) ≡ (digits_value 10 text == digits_value 10 digits)
same_numbers text digits p q =
    let s = stripped text p in
    let t = stripped digits q in
    same_from_decides (bytes_eq (without_zeros text) (without_zeros digits)) (digits_value 10 text == digits_value 10 digits) (
      λ e. sym s.value ∙ ap (digits_value 10) ((bytes_eq-Decides (without_zeros text) (without_zeros digits)).0 e) ∙ t.value,
      λ e. (bytes_eq-Decides (without_zeros text) (without_zeros digits)).1 (same_without_zeros text digits p q e),
    )
    (Decides-eqb (digits_value 10 text) (digits_value 10 digits))

pub writes_same : (text digits : List ℕ) → is_numeral text ≡ true → IsDigits digits
    → bytes_eq (without_zeros text) (without_zeros digits) ≡ writes_number (digits_value 10 digits) text
writes_same text digits p q =
    rw p (same_numbers text digits (and_parts (nat_lt 0 (length text)) (list_all is_ascii_digit text) p).1 q)
