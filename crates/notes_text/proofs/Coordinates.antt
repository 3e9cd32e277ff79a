-- A coordinate that was written is read again.
use Rattle.std.proofs.Common.{◌≡◌, ◌≢◌, ℕ, suc, ◌<◌, ◌^◌, Bool, true, false, ℤ, pos, negsuc, List, [], ◌∷◌, ◌++◌, length, Some, None, option_map, Result, codes, refl, sym, ap, ◌∙◌, subst, arith, decimal}
use Rattle.std.specs.Prelude.{◌&&◌, nat_lt, if◌then◌else◌, neg_ℤ, ◌≤ℤ◌, int_le}
use Rattle.std.specs.List.{list_all}
use Rattle.std.specs.Char.{is_ascii_digit}
use Rattle.std.specs.Str.Parse.{digits_value}
use Rattle.std.proofs.lemmas.Bool.{and_from, and_parts, lt-ltb, ne_eqb, true≢false}
use Rattle.std.proofs.lemmas.Int.{ints}
use Rattle.std.proofs.lemmas.Fmt.{decimal_is_IsNumeral}
use Rattle.osm_base.specs.Number.{is_whole, whole_of}
use Rattle.osm_base.specs.Place.{Position, IsPosition, is_position, is_within}
use Rattle.osm_base.proofs.NumberLemmas.{digits_model}
use Rattle.json.specs.Token.{Token}
use Rattle.osm_json.specs.Sent.{tokens_of}
use Rattle.osm_json.specs.Shown.{integer}
use Rattle.json_line.specs.Heard.{Hears}
use Rattle.json_line.specs.Read.{Parsed, ◌>>=◌}
use Rattle.notes_text.specs.Read.{if_short, short_of, units_of, units_next, coordinate_next, placed, position_next}
use Rattle.line_text.specs.declared.faults.LineFault.{LineFault}

-- ---- what was cut off a sign

pub behind_minus : (text digits : List ℕ) → text ≡ 45 ∷ digits → units_of text ≡ option_map (λ n. neg_ℤ (pos n)) (short_of digits)
unfolding units_of
behind_minus text digits is = ap units_of is

pub without_minus : (text : List ℕ) → ((rest : List ℕ) → text ≢ 45 ∷ rest) → units_of text ≡ option_map pos (short_of text)
unfolding units_of
without_minus [] none = refl
without_minus (first ∷ rest) none =
    ap (λ (b : Bool). if b then option_map (λ n. neg_ℤ (pos n)) (short_of rest) else option_map pos (short_of (first ∷ rest)))
    (ne_eqb first 45 (λ same. none rest (ap (λ x. x ∷ rest) same)))

-- ---- what was written

short_again : (n : ℕ) → n < 2 ^ 31 → short_of (decimal n) ≡ Some n
short_again n small =
    let wide : n < 2 ^ 64 = omega arith in
    let numeral = decimal_is_IsNumeral n wide in
    let some = lt-ltb 0 (length (decimal n)) numeral.0.0 in
    let digits = digits_model.from (decimal n) numeral.0.1 in
    let whole : is_whole (decimal n) ≡ true = and_from (nat_lt 0 (length (decimal n))) (list_all is_ascii_digit (decimal n)) some digits in
    let read : whole_of (decimal n) ≡ Some n =
    ap (λ (b : Bool). if b && nat_lt (digits_value 10 (decimal n)) (2 ^ 64) then Some (digits_value 10 (decimal n)) else None) whole
    ∙ ap (λ (m : ℕ). if nat_lt m (2 ^ 64) then Some m else None) numeral.1
    ∙ ap (λ (b : Bool). if b then Some n else None) (lt-ltb n (2 ^ 64) wide) in
    ap if_short read ∙ ap (λ (b : Bool). if b then Some n else None) (lt-ltb n (2 ^ 31) small)

no_minus : (n : ℕ) (rest : List ℕ) → n < 2 ^ 64 → decimal n ≢ 45 ∷ rest
no_minus n rest wide same = true≢false (sym (digits_model.from (decimal n) (decimal_is_IsNumeral n wide).0.1) ∙ ap (λ (ds : List ℕ). list_all is_ascii_digit ds) same)

positive : (n : ℕ) → n < 2 ^ 31 → units_of (decimal n) ≡ Some (pos n)
positive n small =
    let wide : n < 2 ^ 64 = omega arith in
    without_minus (decimal n) (λ rest. no_minus n rest wide) ∙ ap (option_map pos) (short_again n small)

negative : (n : ℕ) → suc n < 2 ^ 31 → units_of (45 ∷ decimal (suc n)) ≡ Some (negsuc n)
negative n small = behind_minus (45 ∷ decimal (suc n)) (decimal (suc n)) refl ∙ ap (option_map (λ n. neg_ℤ (pos n))) (short_again (suc n) small)

pub units_again : (z : ℤ) (rest : List Token) → negsuc 1799999999 ≤ℤ z → z ≤ℤ pos 1800000000 → units_next (tokens_of (integer z) ++ rest) ≡ Some (z, rest)
unfolding tokens_of
units_again (pos n) rest low high = let small : n < 2 ^ 31 = omega (arith, ints) in ap (option_map (λ z. (z, rest))) (positive n small)
units_again (negsuc n) rest low high = let small : suc n < 2 ^ 31 = omega (arith, ints) in ap (option_map (λ z. (z, rest))) (negative n small)

-- ---- positions

tested : (a b : ℤ) → a ≤ℤ b → int_le a b ≡ true
tested a b le = grind (arith, ints)

holds : (a b : ℤ) → int_le a b ≡ true → a ≤ℤ b
holds a b le = grind (arith, ints)

pub on_globe : (lat7 lon7 : ℤ) → IsPosition lat7 lon7 → is_position lat7 lon7 ≡ true
on_globe lat7 lon7 is =
    and_from (is_within (negsuc 899999999) lat7 (pos 900000000)) (is_within (negsuc 1799999999) lon7 (pos 1800000000))
    (and_from (int_le (negsuc 899999999) lat7) (int_le lat7 (pos 900000000)) (tested (negsuc 899999999) lat7 is.south) (tested lat7 (pos 900000000) is.north))
    (and_from (int_le (negsuc 1799999999) lon7) (int_le lon7 (pos 1800000000)) (tested (negsuc 1799999999) lon7 is.west) (tested lon7 (pos 1800000000) is.east))

globe_holds : (lat7 lon7 : ℤ) → is_position lat7 lon7 ≡ true → IsPosition lat7 lon7
globe_holds lat7 lon7 is =
    let both = and_parts (is_within (negsuc 899999999) lat7 (pos 900000000)) (is_within (negsuc 1799999999) lon7 (pos 1800000000)) is in
    let lat = and_parts (int_le (negsuc 899999999) lat7) (int_le lat7 (pos 900000000)) both.0 in
    let lon = and_parts (int_le (negsuc 1799999999) lon7) (int_le lon7 (pos 1800000000)) both.1 in
    record {
      south = holds (negsuc 899999999) lat7 lat.0;
      north = holds lat7 (pos 900000000) lat.1;
      west = holds (negsuc 1799999999) lon7 lon.0;
      east = holds lon7 (pos 1800000000) lon.1;
    }

pub placed_there : (lat7 lon7 : ℤ) (ts : List Token) → IsPosition lat7 lon7 → placed lat7 lon7 ts ≡ Some (record { lat7 = lat7; lon7 = lon7 }, ts)
placed_there lat7 lon7 ts is = ap (λ (b : Bool). if b then Some (record { lat7 = lat7; lon7 = lon7 }, ts) else None) (on_globe lat7 lon7 is)

pub placed_nowhere : (lat7 lon7 : ℤ) (ts : List Token) → (IsPosition lat7 lon7 → ⊥) → placed lat7 lon7 ts ≡ None
placed_nowhere lat7 lon7 ts isnt = by (is_position lat7 lon7) refl
  where
    by : (b : Bool) → is_position lat7 lon7 ≡ b → ◌≡◌ {A = Parsed Position} (if b then Some (record { lat7 = lat7; lon7 = lon7 }, ts) else None) None
    by true e = absurd (isnt (globe_holds lat7 lon7 e))
    by false e = refl

-- ---- what was read

pub positioned : (result : Result Position LineFault) (lat7 lon7 : ℤ) (old mid new : List Token) → coordinate_next (codes "lat7") old ≡ Some (lat7, mid) → coordinate_next (codes "lon7") mid ≡ Some (lon7, new)
    → Hears {X = Position} (λ c. c) result (placed lat7 lon7 new) new → Hears {X = Position} (λ c. c) result (position_next old) new
unfolding position_next
positioned result lat7 lon7 old mid new first second h =
    subst (λ (p : Parsed Position). Hears {X = Position} (λ c. c) result p new)
    (sym (ap (λ (o : Parsed ℤ). o >>= λ lat7 ts. coordinate_next (codes "lon7") ts >>= λ lon7 ts. placed lat7 lon7 ts) first ∙ ap (λ (o : Parsed ℤ). o >>= λ lon7 ts. placed lat7 lon7 ts) second))
    h
