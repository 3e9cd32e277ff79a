-- What a loop over digits needs.
use Rattle.std.proofs.Common.{◌≡◌, ℕ, codes, refl, Some, None, ◌+◌, ◌*◌, ◌-◌, ◌<◌, ◌≤◌, ◌^◌, true, List, length, get_or, take, arith, rules, ap, ◌∙◌, subst}
use Rattle.std.specs.List.{list_all}
use Rattle.std.specs.Char.{is_ascii_digit, digit_value}
use Rattle.std.specs.Int.{IsInRange}
use Rattle.std.specs.Str.Parse.{digits_value}
use Rattle.std.proofs.lemmas.Str.Parse.{IsNumeralModel, numerals_by_value, digits_value_short, digit_at, digits_value-take-le}
use Rattle.std.proofs.lemmas.Int.Digits.{digits_value_more}
use Rattle.std.proofs.lemmas.Grind.{common_steps}
use Rattle.std.proofs.lemmas.Bool.{and_parts, leb-true}
use Rattle.osm_base.specs.Number.{is_digits, number_of}

-- the digits of a text, as std's lemmas read them
pub digits_model : IsNumeralModel (λ ds. list_all is_ascii_digit ds ≡ true) (digits_value 10)
digits_model = numerals_by_value _ (search rules)

pub short_value : (text : List ℕ) → list_all is_ascii_digit text ≡ true → length text ≤ 19 → digits_value 10 text < 10 ^ 19
short_value text digits short = digits_value_short digits_model text 19 digits short

pub is_digit_at : (text : List ℕ) (i : ℕ) → list_all is_ascii_digit text ≡ true → i < length text → IsInRange 48 57 (get_or text i 0)
is_digit_at text i digits below = digit_at text i (digits_model.to text digits) below

-- the value of a byte that is a digit
digit_value-digit : (c : ℕ) → IsInRange 48 57 c → digit_value c ≡ c - 48
digit_value-digit c within = grind (arith, common_steps)

-- one more digit
pub digits_value_step : (text : List ℕ) (i : ℕ) → list_all is_ascii_digit text ≡ true → i < length text → digits_value 10 (take (i + 1) text) ≡ digits_value 10 (take i text) * 10 + (get_or text i 0 - 48)
digits_value_step text i digits below =
    digits_value_more 10 text i below ∙ ap (λ (d : ℕ). digits_value 10 (take i text) * 10 + d) (digit_value-digit (get_or text i 0) (is_digit_at text i digits below))

-- the value with one more digit is no more than the whole
pub next_value_le : (text : List ℕ) (i : ℕ) → list_all is_ascii_digit text ≡ true → i < length text → digits_value 10 (take i text) * 10 + (get_or text i 0 - 48) ≤ digits_value 10 text
next_value_le text i digits below =
    subst (λ (n : ℕ). n ≤ digits_value 10 text) (digits_value_step text i digits below) (digits_value-take-le 10 text (i + 1) (omega arith))

-- what a text of one to nineteen digits is
pub record IsShort (text : List ℕ) : Type 0 where
  pub digits : list_all is_ascii_digit text ≡ true
  pub fits : digits_value 10 text < 10 ^ 19

pub short_from_test : (text : List ℕ) → is_digits text ≡ true → IsShort text
short_from_test text holds =
    let parts = and_parts _ _ holds in
    let counts = and_parts _ _ parts.0 in
    record { digits = parts.1; fits = short_value text parts.1 (leb-true _ _ counts.1) }

-- ---- worked rows
leading_zeros : number_of (codes "007") ≡ Some 7
leading_zeros = refl

zero : number_of (codes "0") ≡ None
zero = refl

largest : number_of (codes "9223372036854775807") ≡ Some 9_223_372_036_854_775_807
largest = refl

too_large : number_of (codes "9223372036854775808") ≡ None
too_large = refl

twenty_digits : number_of (codes "00000000000000000001") ≡ None
twenty_digits = refl

no_digits : number_of (codes "") ≡ None
no_digits = refl

plus_sign : number_of (codes "+1") ≡ None
plus_sign = refl
