-- No byte 0 stands in the text of plain data.
use Rattle.std.proofs.Common.{◌≡◌, ℕ, zero, suc, ◌<◌, pos, negsuc, Bool, true, false, ◌&&◌, ◌==◌, List, [], ◌∷◌, ◌++◌, refl, arith, inl, inr, decimal}
use Rattle.std.proofs.lemmas.Bool.{and_parts, and_from, cases_lt, cases_eq, ne_eqb}
use Rattle.std.proofs.lemmas.Fmt.{decimal_is_IsNumeral}
use Rattle.std.specs.Char.{digit_value}
use Rattle.std.specs.Prelude.{not}
use Rattle.std.specs.Str.Parse.{AllDigits}
use Rattle.json.specs.Print.{escape_byte, escape, quoted}
use Rattle.json.proofs.Printed.Strings.{escape_byte_plain}
use Rattle.serde_json.specs.Data.{Num, unsigned, negative, float, Data, null, boolean, number, string, array, object, Items, no_items, item, Members, no_members, member}
use Rattle.serde_json.specs.Written.{number_text, comma_if, compact_text, items_text, members_text}
use Rattle.osm_json.specs.Again.{IsShort, IsPlainData, ArePlainItems, ArePlainMembers, has_no_zero}

abbrev is_other : ℕ → Bool
is_other b = not (b == 0)

full-append : (xs ys : List ℕ) → has_no_zero xs ≡ true → has_no_zero ys ≡ true → has_no_zero (xs ++ ys) ≡ true
full-append [] ys h k = k
full-append (x ∷ xs) ys h k = let p = and_parts (is_other x) (has_no_zero xs) h in and_from (is_other x) (has_no_zero (xs ++ ys)) p.0 (full-append xs ys p.1 k)

digit_other : (d : ℕ) → digit_value d < 10 → is_other d ≡ true
digit_other d h = elim (cases_eq d 0) [ inl same ↦ absurd (hole d h same) | inr other ↦ differs d other ]
  where
    hole : (d : ℕ) → digit_value d < 10 → d ≡ 0 → ⊥
    hole d h same = grind arith

    differs : (d : ℕ) → (d ≡ 0 → ⊥) → is_other d ≡ true
    differs d other = rw (ne_eqb d 0 other) refl

digits_full : (ds : List ℕ) → AllDigits 10 ds → has_no_zero ds ≡ true
digits_full [] h = refl
digits_full (d ∷ ds) h = and_from (is_other d) (has_no_zero ds) (digit_other d h.0) (digits_full ds h.1)

number_full : (n : Num) → IsShort n → has_no_zero (number_text n) ≡ true
number_full (unsigned n) h = digits_full (decimal n) (decimal_is_IsNumeral n h).0.1
number_full (negative (pos n)) h = absurd h
number_full (negative (negsuc n)) h = digits_full (decimal (suc n)) (decimal_is_IsNumeral (suc n) (omega arith)).0.1
number_full (float x) h = absurd h

-- the escapes of the bytes below n
abbrev escapes_below : ℕ → Bool
escapes_below zero = true
escapes_below (suc n) = has_no_zero (escape_byte n) && escapes_below n

escape_below : (n : ℕ) → escapes_below n ≡ true → (x : ℕ) → x < n → has_no_zero (escape_byte x) ≡ true
escape_below zero e x h = absurd (omega arith)
escape_below (suc n) e x h =
    let p = and_parts (has_no_zero (escape_byte n)) (escapes_below n) e in
    elim (cases_eq x n) [ inl same ↦ rw same p.0 | inr other ↦ escape_below n p.1 x (omega arith) ]

few_escapes : escapes_below 128 ≡ true
unfolding escape_byte
few_escapes = refl

escape_full : (x : ℕ) → has_no_zero (escape_byte x) ≡ true
escape_full x = elim (cases_lt x 128) [
  | inl small ↦ escape_below 128 few_escapes x small
  | inr big ↦ rw (escape_byte_plain x (λ e. omega arith) (λ e. omega arith) (omega arith)) (and_from (is_other x) true (rw (ne_eqb x 0 (λ e. omega arith)) refl) refl)
]

escaped_full : (s : List ℕ) → has_no_zero (escape s) ≡ true
escaped_full [] = refl
escaped_full (x ∷ s) = full-append (escape_byte x) (escape s) (escape_full x) (escaped_full s)

quoted_full : (s : List ℕ) → has_no_zero (quoted s) ≡ true
quoted_full s = full-append (escape s) (34 ∷ []) (escaped_full s) refl

boolean_full : (b : Bool) → has_no_zero (compact_text (boolean b)) ≡ true
boolean_full true = refl
boolean_full false = refl

comma_full : (later : Bool) → has_no_zero (comma_if later) ≡ true
comma_full true = refl
comma_full false = refl

mutual
  pub text_full : (d : Data) → IsPlainData d → has_no_zero (compact_text d) ≡ true
  text_full null h = refl
  text_full (boolean b) h = boolean_full b
  text_full (number n) h = number_full n h
  text_full (string s) h = quoted_full s
  text_full (array ds) h = items_full false ds h
  text_full (object ms) h = members_full false ms h

  items_full : (later : Bool) (ds : Items) → ArePlainItems ds → has_no_zero (items_text later ds) ≡ true
  items_full later no_items h = refl
  items_full later (item d ds) h =
      full-append (comma_if later) (compact_text d ++ items_text true ds) (comma_full later) (full-append (compact_text d) (items_text true ds) (text_full d h.0) (items_full true ds h.1))

  members_full : (later : Bool) (ms : Members) → ArePlainMembers ms → has_no_zero (members_text later ms) ≡ true
  members_full later no_members h = refl
  members_full later (member k d ms) h =
      full-append (comma_if later) (quoted k ++ 58 ∷ (compact_text d ++ members_text true ms)) (comma_full later)
      (full-append (quoted k) (58 ∷ (compact_text d ++ members_text true ms)) (quoted_full k) (full-append (compact_text d) (members_text true ms) (text_full d h.1) (members_full true ms h.2)))
