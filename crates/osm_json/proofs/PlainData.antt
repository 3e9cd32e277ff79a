-- Plain data is read from the tokens of its own text, which is one line.
use Rattle.std.proofs.Common.{◌≡◌, ℕ, zero, suc, ◌<◌, ◌≤◌, max, pos, negsuc, Bool, true, false, ◌&&◌, ◌==◌, List, [], ◌∷◌, ◌++◌, Some, option_map, option_and_then, Less, Greater, nat_cmp, refl, sym, ap, ◌∙◌, arith, inl, inr, decimal}
use Rattle.std.proofs.lemmas.Bool.{and_parts, and_from, cases_lt, cases_eq, ne_eqb}
use Rattle.std.proofs.lemmas.Cmp.{nat_list_cmp_total}
use Rattle.std.proofs.lemmas.Fmt.{decimal_is_IsNumeral}
use Rattle.std.specs.Char.{digit_value}
use Rattle.std.specs.Cmp.Lexicographic.{slice_cmp}
use Rattle.std.specs.Ordering.{ordering_reverse}
use Rattle.std.specs.Prelude.{not}
use Rattle.std.specs.Str.Parse.{AllDigits}
use Rattle.json.specs.Lex.{tokens}
use Rattle.json.specs.Print.{IsNumber, escape_byte, escape, quoted}
use Rattle.json.specs.Token.{Token}
use Rattle.json.specs.Tree.{json_tokens, HasNumbers, ItemsHaveNumbers, MembersHaveNumbers}
use Rattle.json.specs.Tree as tree
use Rattle.json.proofs.Printed.Decimals.{IsNumber-decimal, IsNumber-signed_decimal}
use Rattle.json.proofs.Printed.Strings.{escape_byte_plain}
use Rattle.json.proofs.Printed.Tokens.{tokens-print}
use Rattle.json.proofs.Printed.Trees.{value-json_tokens, ArePrintable-json_tokens}
use Rattle.serde_json.specs.Data.{Num, unsigned, negative, float, Data, null, boolean, number, string, array, object, Items, no_items, item, Members, no_members, member, put, depth, items_depth, members_depth}
use Rattle.serde_json.specs.Read.{number_of, of_json, of_items, of_members, converted}
use Rattle.serde_json.specs.Written.{number_text, outline, items_outline, members_outline, comma_if, compact_text, items_text, members_text}
use Rattle.serde_json.proofs.Numbers.{number_of-decimal, number_of-negative}
use Rattle.serde_json.proofs.Texts.{print-outline}
use Rattle.osm_json.specs.Again.{IsShort, IsBefore, IsPlainData, ArePlainItems, ArePlainMembers, is_one_line}
use Rattle.osm_json.specs.Pull.{next_data}
use Rattle.osm_json.specs.Sent.{tokens_of}

-- ---- numbers

printed : (n : Num) → IsShort n → IsNumber (number_text n)
printed (unsigned n) h = IsNumber-decimal n h
printed (negative (pos n)) h = absurd h
printed (negative (negsuc n)) h = IsNumber-signed_decimal (negsuc n) h
printed (float x) h = absurd h

read_number : (n : Num) → IsShort n → number_of (number_text n) ≡ Some n
read_number (unsigned n) h = number_of-decimal n h
read_number (negative (pos n)) h = absurd h
read_number (negative (negsuc n)) h = number_of-negative n h
read_number (float x) h = absurd h

mutual
  HasNumbers-outline : (d : Data) → IsPlainData d → HasNumbers (outline d)
  HasNumbers-outline null h = tt
  HasNumbers-outline (boolean b) h = tt
  HasNumbers-outline (number n) h = printed n h
  HasNumbers-outline (string s) h = tt
  HasNumbers-outline (array ds) h = ItemsHaveNumbers-outline ds h
  HasNumbers-outline (object ms) h = MembersHaveNumbers-outline ms h

  ItemsHaveNumbers-outline : (ds : Items) → ArePlainItems ds → ItemsHaveNumbers (items_outline ds)
  ItemsHaveNumbers-outline no_items h = tt
  ItemsHaveNumbers-outline (item d ds) h = (HasNumbers-outline d h.0, ItemsHaveNumbers-outline ds h.1)

  MembersHaveNumbers-outline : (ms : Members) → ArePlainMembers ms → MembersHaveNumbers (members_outline ms)
  MembersHaveNumbers-outline no_members h = tt
  MembersHaveNumbers-outline (member k d ms) h = (HasNumbers-outline d h.1, MembersHaveNumbers-outline ms h.2)

-- ---- tokens

pub tokens_again : (d : Data) → IsPlainData d → tokens (compact_text d) ≡ tokens_of d
unfolding tokens_of
tokens_again d plain = ap tokens (sym (print-outline d)) ∙ tokens-print (json_tokens (outline d)) (ArePrintable-json_tokens (outline d) (HasNumbers-outline d plain))

-- ---- members whose names rise

joined : Members → Members → Members
joined no_members more = more
joined (member k d ms) more = member k d (joined ms more)

joined_none : (ms : Members) → joined ms no_members ≡ ms
unfolding joined
joined_none no_members = refl
joined_none (member k d ms) = ap (member k d) (joined_none ms)

joined_more : (done : Members) (k : List ℕ) (d : Data) (ms : Members) → joined (joined done (member k d no_members)) ms ≡ joined done (member k d ms)
unfolding joined
joined_more no_members k d ms = refl
joined_more (member l e done) k d ms = ap (member l e) (joined_more done k d ms)

-- the name stands behind those of the members
abbrev IsBehind : Members → List ℕ → Type 0
IsBehind no_members k = Unit {0}
IsBehind (member l d ms) k = (slice_cmp nat_cmp k l ≡ Greater) × IsBehind ms k

abbrev AreBehind : Members → Members → Type 0
AreBehind done no_members = Unit {0}
AreBehind done (member k d ms) = IsBehind done k × AreBehind done ms

behind_none : (ms : Members) → AreBehind no_members ms
behind_none no_members = tt
behind_none (member k d ms) = (tt, behind_none ms)

behind_one : (done : Members) (k : List ℕ) (d : Data) (l : List ℕ) → IsBehind done l → slice_cmp nat_cmp k l ≡ Less → IsBehind (joined done (member k d no_members)) l
unfolding joined
behind_one no_members k d l h less = (nat_list_cmp_total.antisymm l k ∙ ap ordering_reverse less, tt)
behind_one (member m e done) k d l h less = (h.0, behind_one done k d l h.1 less)

behind_more : (done : Members) (k : List ℕ) (d : Data) (ms : Members) → AreBehind done ms → IsBefore k ms → AreBehind (joined done (member k d no_members)) ms
behind_more done k d no_members h before = tt
behind_more done k d (member l e ms) h before = (behind_one done k d l h.0 before.0, behind_more done k d ms h.1 before.1)

put_last : (k : List ℕ) (d : Data) (done : Members) → IsBehind done k → put k d done ≡ joined done (member k d no_members)
unfolding joined
put_last k d no_members h = refl
put_last k d (member l e done) h = rw h.0 (ap (member l e) (put_last k d done h.1))

-- ---- the data of its own JSON

mutual
  unfolding joined

  data_again : (d : Data) → IsPlainData d → of_json (outline d) ≡ Some d
  data_again null h = refl
  data_again (boolean b) h = refl
  data_again (number n) h = ap (option_map number) (read_number n h)
  data_again (string s) h = refl
  data_again (array ds) h = ap (option_map array) (items_again ds h)
  data_again (object ms) h = ap (option_map object) (members_again ms no_members h (behind_none ms))

  items_again : (ds : Items) → ArePlainItems ds → of_items (items_outline ds) ≡ Some ds
  items_again no_items h = refl
  items_again (item d ds) h = ap (option_and_then (λ e. option_map (item e) (of_items (items_outline ds)))) (data_again d h.0) ∙ ap (option_map (item d)) (items_again ds h.1)

  members_again : (ms done : Members) → ArePlainMembers ms → AreBehind done ms → of_members (members_outline ms) done ≡ Some (joined done ms)
  members_again no_members done h behind = ap Some (sym (joined_none done))
  members_again (member k d ms) done h behind =
      ap (option_and_then (λ e. of_members (members_outline ms) (put k e done))) (data_again d h.1)
      ∙ ap (of_members (members_outline ms)) (put_last k d done behind.0)
      ∙ members_again ms (joined done (member k d no_members)) h.2 (behind_more done k d ms behind.1 h.0)
      ∙ ap Some (joined_more done k d ms)

mutual
  depth-outline : (d : Data) → tree.depth (outline d) ≡ depth d
  depth-outline null = refl
  depth-outline (boolean b) = refl
  depth-outline (number n) = refl
  depth-outline (string s) = refl
  depth-outline (array ds) = ap suc (items_depth-outline ds)
  depth-outline (object ms) = ap suc (members_depth-outline ms)

  items_depth-outline : (ds : Items) → tree.items_depth (items_outline ds) ≡ items_depth ds
  items_depth-outline no_items = refl
  items_depth-outline (item d ds) = ap (λ n. max n (tree.items_depth (items_outline ds))) (depth-outline d) ∙ ap (max (depth d)) (items_depth-outline ds)

  members_depth-outline : (ms : Members) → tree.members_depth (members_outline ms) ≡ members_depth ms
  members_depth-outline no_members = refl
  members_depth-outline (member k d ms) = ap (λ n. max n (tree.members_depth (members_outline ms))) (depth-outline d) ∙ ap (max (depth d)) (members_depth-outline ms)

-- what begins the tokens is the data, and what is left stands behind it
pub next_again : (d : Data) (n : ℕ) (rest : List Token) → IsPlainData d → depth d ≤ n → next_data n (tokens_of d ++ rest) ≡ Some (d, rest)
unfolding tokens_of
next_again d n rest plain le =
    ap (converted of_json) (value-json_tokens (outline d) n rest (omega (arith, depth-outline d)))
    ∙ ap (option_map (λ e. (e, rest))) (data_again d plain)

-- ---- one line

abbrev is_other : ℕ → Bool
is_other b = not (b == 10)

line-append : (xs ys : List ℕ) → is_one_line xs ≡ true → is_one_line ys ≡ true → is_one_line (xs ++ ys) ≡ true
line-append [] ys h k = k
line-append (x ∷ xs) ys h k = let p = and_parts (is_other x) (is_one_line xs) h in and_from (is_other x) (is_one_line (xs ++ ys)) p.0 (line-append xs ys p.1 k)

digit_other : (d : ℕ) → digit_value d < 10 → is_other d ≡ true
digit_other d h = elim (cases_eq d 10) [ inl same ↦ absurd (newline d h same) | inr other ↦ differs d other ]
  where
    newline : (d : ℕ) → digit_value d < 10 → d ≡ 10 → ⊥
    newline d h same = grind arith

    differs : (d : ℕ) → (d ≡ 10 → ⊥) → is_other d ≡ true
    differs d other = rw (ne_eqb d 10 other) refl

digits_line : (ds : List ℕ) → AllDigits 10 ds → is_one_line ds ≡ true
digits_line [] h = refl
digits_line (d ∷ ds) h = and_from (is_other d) (is_one_line ds) (digit_other d h.0) (digits_line ds h.1)

number_line : (n : Num) → IsShort n → is_one_line (number_text n) ≡ true
number_line (unsigned n) h = digits_line (decimal n) (decimal_is_IsNumeral n h).0.1
number_line (negative (pos n)) h = absurd h
number_line (negative (negsuc n)) h = digits_line (decimal (suc n)) (decimal_is_IsNumeral (suc n) (omega arith)).0.1
number_line (float x) h = absurd h

-- the escapes of the bytes below n
abbrev escapes_below : ℕ → Bool
escapes_below zero = true
escapes_below (suc n) = is_one_line (escape_byte n) && escapes_below n

escape_below : (n : ℕ) → escapes_below n ≡ true → (x : ℕ) → x < n → is_one_line (escape_byte x) ≡ true
escape_below zero e x h = absurd (omega arith)
escape_below (suc n) e x h =
    let p = and_parts (is_one_line (escape_byte n)) (escapes_below n) e in
    elim (cases_eq x n) [ inl same ↦ rw same p.0 | inr other ↦ escape_below n p.1 x (omega arith) ]

few_escapes : escapes_below 128 ≡ true
unfolding escape_byte
few_escapes = refl

escape_line : (x : ℕ) → is_one_line (escape_byte x) ≡ true
escape_line x = elim (cases_lt x 128) [
  | inl small ↦ escape_below 128 few_escapes x small
  | inr big ↦ rw (escape_byte_plain x (λ e. omega arith) (λ e. omega arith) (omega arith)) (and_from (is_other x) true (rw (ne_eqb x 10 (λ e. omega arith)) refl) refl)
]

escaped_line : (s : List ℕ) → is_one_line (escape s) ≡ true
escaped_line [] = refl
escaped_line (x ∷ s) = line-append (escape_byte x) (escape s) (escape_line x) (escaped_line s)

quoted_line : (s : List ℕ) → is_one_line (quoted s) ≡ true
quoted_line s = line-append (escape s) (34 ∷ []) (escaped_line s) refl

boolean_line : (b : Bool) → is_one_line (compact_text (boolean b)) ≡ true
boolean_line true = refl
boolean_line false = refl

comma_line : (later : Bool) → is_one_line (comma_if later) ≡ true
comma_line true = refl
comma_line false = refl

mutual
  pub text_line : (d : Data) → IsPlainData d → is_one_line (compact_text d) ≡ true
  text_line null h = refl
  text_line (boolean b) h = boolean_line b
  text_line (number n) h = number_line n h
  text_line (string s) h = quoted_line s
  text_line (array ds) h = items_line false ds h
  text_line (object ms) h = members_line false ms h

  items_line : (later : Bool) (ds : Items) → ArePlainItems ds → is_one_line (items_text later ds) ≡ true
  items_line later no_items h = refl
  items_line later (item d ds) h =
      line-append (comma_if later) (compact_text d ++ items_text true ds) (comma_line later) (line-append (compact_text d) (items_text true ds) (text_line d h.0) (items_line true ds h.1))

  members_line : (later : Bool) (ms : Members) → ArePlainMembers ms → is_one_line (members_text later ms) ≡ true
  members_line later no_members h = refl
  members_line later (member k d ms) h =
      line-append (comma_if later) (quoted k ++ 58 ∷ (compact_text d ++ members_text true ms)) (comma_line later)
      (line-append (quoted k) (58 ∷ (compact_text d ++ members_text true ms)) (quoted_line k) (line-append (compact_text d) (members_text true ms) (text_line d h.1) (members_line true ms h.2)))
