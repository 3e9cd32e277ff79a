-- Numbers of a few digits.
use Rattle.std.proofs.Common.{◌≡◌, ℕ, ◌-◌, ◌^◌, ◌<◌, ◌≤◌, nat_lt, nat_le, ◌&&◌, List, [], ◌++◌, length, Bool, true, false, if◌then◌else◌, Option, Some, refl, sym, ap, ◌∙◌, arith}
use Rattle.std.proofs.lemmas.List.{append-nil}
use Rattle.std.proofs.lemmas.Float.Parse.{scan_numeral-text_of}
use Rattle.std.specs.Char.{digit_value}
use Rattle.std.specs.Str.Parse.{AllDigits, digits_value}
use Rattle.fast_float.specs.Text.{Parts, scan, digits_of, with_sign}
use Rattle.serde_json.specs.Data.{Num, unsigned, negative}
use Rattle.serde_json.specs.Read.{is_integer, number_from}
use Rattle.osm_json.specs.Scalars.{IsPlain}

pub digit_is : (c : ℕ) → 48 ≤ c → c ≤ 57 → digit_value c ≡ c - 48
digit_is c low high = grind arith

abbrev parts : List ℕ → Parts
parts s = record { whole = s; point = false; fraction = []; exponent_negative = false; exponent = []; len = length s }

scanned : (s : List ℕ) → AllDigits 10 s → scan s ≡ parts s
scanned s all =
    let same : s ++ ([] ++ []) ≡ s = append-nil s in
    ap scan (sym same) ∙ scan_numeral-text_of (parts s) (record { whole_digits = all; fraction_digits = tt; exponent_digits = tt; no_point = λ e. refl; no_exponent = λ e. refl; len_is = ap length (sym same) })

chosen_unsigned : (a b : Bool) (n : ℕ) (other : Option Num) → a ≡ true → b ≡ true → (if a && b then Some (unsigned n) else other) ≡ Some (unsigned n)
chosen_unsigned a b n other e f = rw (e, f)

chosen_negative : (a b c : Bool) (n : ℕ) (other : Option Num) → a ≡ true → b ≡ true → c ≡ true → (if a && b && c then Some (negative (with_sign true n)) else other) ≡ Some (negative (with_sign true n))
chosen_negative a b c n other e f g = rw (e, f, g)

whole : (s : List ℕ) → 0 < length s → is_integer (parts s) ≡ true
whole s some = grind arith

value_of : (s : List ℕ) (n : ℕ) → n ≡ digits_value 10 s → digits_of (parts s) ≡ n
value_of s n e = ap (digits_value 10) (append-nil s) ∙ sym e

pub plain_number : (s : List ℕ) (n : ℕ) → IsPlain s n → Some (unsigned n) ≡ number_from false (scan s)
plain_number s n h =
    let v = value_of s n h.value in
    let small = h.small in
    let fits : nat_lt (digits_of (parts s)) (2 ^ 64) ≡ true = rw v (grind arith) in
    sym (ap (number_from false) (scanned s h.all) ∙ chosen_unsigned _ _ (digits_of (parts s)) _ (whole s h.some) fits ∙ ap (λ m. Some (unsigned m)) v)

pub plain_negative : (s : List ℕ) (n : ℕ) → IsPlain s n → 0 < n → Some (negative (with_sign true n)) ≡ number_from true (scan s)
plain_negative s n h some =
    let v = value_of s n h.value in
    let small = h.small in
    let above : nat_lt 0 (digits_of (parts s)) ≡ true = rw v (grind arith) in
    let fits : nat_le (digits_of (parts s)) (2 ^ 63) ≡ true = rw v (grind arith) in
    sym (ap (number_from true) (scanned s h.all) ∙ chosen_negative _ _ _ (digits_of (parts s)) _ (whole s h.some) above fits ∙ ap (λ m. Some (negative (with_sign true m))) v)
