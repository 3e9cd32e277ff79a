-- The users text of a load has a table. What is said of one line is computed for each user that there may be.
use Rattle.std.proofs.Common.{◌≡◌, ℕ, zero, suc, ◌+◌, ◌-◌, ◌*◌, ◌<◌, ◌≤◌, ⊎_elim, Bool, true, false, not, ◌&&◌, cond, List, [], ◌∷◌, ◌++◌, length, map, take, drop, Result, Ok, Err, nat_lt, nat_le, eqb, refl, sym, ap, ◌∙◌, subst, arith, length-append, append_assoc}
use Rattle.std.specs.List.{range_with_len, list_all, slice_split, All}
use Rattle.std.specs.Str.{IsUtf8, chars}
use Rattle.std.specs.Str.Lines.{lines, lines_of_parts, strip_carriage_return}
use Rattle.std.specs.Fmt.{digits}
use Rattle.std.specs.Prelude.{slice_index, flat_map}
use Rattle.std.proofs.lemmas.Bool.{and_parts, le-ltb, ltb-true, leb-true, cases_lt}
use Rattle.std.proofs.lemmas.List.{take-append-drop}
use Rattle.std.proofs.lemmas.List.Elements.{All-nil, All-cons, All-append}
use Rattle.std.proofs.lemmas.List.FromFn.{take-map-range_with_len}
use Rattle.std.proofs.lemmas.List.Splits.{slice_split_at, length-slice_split}
use Rattle.std.proofs.lemmas.Str.{IsUtf8-from_ascii, is_utf8-from_IsUtf8}
use Rattle.std.proofs.lemmas.Str.Ascii.{IsAscii-from_all}
use Rattle.osm_base.specs.declared.limits.TheConstants.{USERS_LIMIT}
use Rattle.user_table.specs.Users.{Users, nobody, go_on, with_line, with_lines, table_of}
use Rattle.user_table.specs.declared.faults.UsersFault.{UsersFault}
use Rattle.workload.specs.Users.{user_line, users_text}
use Rattle.workload.proofs.UserLemmas.{ended_line}

-- ---- one line
-- no byte 10 within, no byte 13 at the end, and short
abbrev is_plain : ℕ → Bool
is_plain user =
    list_all (λ byte. nat_lt byte 128 && not (eqb byte 10)) (user_line user)
    && (not (eqb (slice_index (user_line user) (length (user_line user) - 1)) 13) && nat_le (length (user_line user)) 15)

all_plain : list_all is_plain (range_with_len 1 64) ≡ true
unfolding user_line digits
all_plain = refl

at_range : (p : ℕ → Bool) (first n user : ℕ) → list_all p (range_with_len first n) ≡ true → first ≤ user → user < first + n → p user ≡ true
at_range p first zero user passes low high = absurd (omega arith)
at_range p first (suc n) user passes low high =
    let parts = and_parts (p first) (list_all p (range_with_len (first + 1) n)) passes in
    ⊎_elim
    (λ (later : first < user). at_range p (first + 1) n user parts.1 (omega arith) (omega arith))
    (λ (here : user ≤ first). let same : first ≡ user = omega arith in sym (ap p same) ∙ parts.0)
    (cases_lt first user)

record IsPlain (line : List ℕ) : Type 0 where
  whole : All (λ byte. eqb byte 10 ≡ false) line
  ascii : All (λ byte. byte < 128) line
  stripped : strip_carriage_return line ≡ line
  short : length line ≤ 15

not_true : (b : Bool) → not b ≡ true → b ≡ false
not_true false h = refl
not_true true h = cc

bytes_whole : (bytes : List ℕ) → list_all (λ byte. nat_lt byte 128 && not (eqb byte 10)) bytes ≡ true → All (λ byte. eqb byte 10 ≡ false) bytes
bytes_whole [] passes = All-nil (λ byte. eqb byte 10 ≡ false)
bytes_whole (byte ∷ bytes) passes =
    let parts = and_parts (nat_lt byte 128 && not (eqb byte 10)) (list_all (λ b. nat_lt b 128 && not (eqb b 10)) bytes) passes in
    All-cons (λ byte. eqb byte 10 ≡ false) byte bytes (not_true (eqb byte 10) (and_parts (nat_lt byte 128) (not (eqb byte 10)) parts.0).1)
    (bytes_whole bytes parts.1)

bytes_ascii : (bytes : List ℕ) → list_all (λ byte. nat_lt byte 128 && not (eqb byte 10)) bytes ≡ true → All (λ byte. byte < 128) bytes
bytes_ascii [] passes = All-nil (λ byte. byte < 128)
bytes_ascii (byte ∷ bytes) passes =
    let parts = and_parts (nat_lt byte 128 && not (eqb byte 10)) (list_all (λ b. nat_lt b 128 && not (eqb b 10)) bytes) passes in
    let low = (and_parts (nat_lt byte 128) (not (eqb byte 10)) parts.0).0 in
    All-cons (λ byte. byte < 128) byte bytes (ltb-true byte 128 low) (bytes_ascii bytes parts.1)

line_is_plain : (user : ℕ) → 1 ≤ user → user ≤ 64 → IsPlain (user_line user)
line_is_plain user low high =
    let line = user_line user in
    let parts = and_parts (list_all (λ byte. nat_lt byte 128 && not (eqb byte 10)) (user_line user))
    (not (eqb (slice_index (user_line user) (length (user_line user) - 1)) 13) && nat_le (length (user_line user)) 15)
    (at_range is_plain 1 64 user all_plain low (omega arith)) in
    let ends = and_parts (not (eqb (slice_index (user_line user) (length (user_line user) - 1)) 13)) (nat_le (length (user_line user)) 15) parts.1 in
    let last = not_true (eqb (slice_index (user_line user) (length (user_line user) - 1)) 13) ends.0 in
    record {
      whole = bytes_whole (user_line user) parts.0;
      ascii = bytes_ascii (user_line user) parts.0;
      stripped = ap (λ b. cond b (take (length (user_line user) - 1) (user_line user)) (user_line user)) last;
      short = leb-true (length (user_line user)) 15 ends.1;
    }

-- ---- the lines of the text
first_part : (line : List ℕ) (parts : List (List ℕ)) → 0 < length parts → lines_of_parts (line ∷ parts) ≡ strip_carriage_return line ∷ lines_of_parts parts
first_part line [] some = absurd (omega arith)
first_part line (part ∷ parts) some = refl

first_line : (line rest : List ℕ) → IsPlain line → lines (line ++ 10 ∷ rest) ≡ line ∷ lines rest
first_line line rest plain =
    ap lines_of_parts (slice_split_at (λ byte. eqb byte 10) line 10 rest plain.whole refl)
    ∙ first_part line (slice_split (λ byte. eqb byte 10) rest) (omega (arith, length-slice_split (λ byte. eqb byte 10) rest))
    ∙ ap (λ first. first ∷ lines rest) plain.stripped

abbrev text_from : ℕ → ℕ → List ℕ
text_from first n = flat_map ended_line (range_with_len first n)

text_from-suc : (first n : ℕ) → text_from first (suc n) ≡ user_line first ++ 10 ∷ text_from (first + 1) n
text_from-suc first n = append_assoc (user_line first) (10 ∷ []) (text_from (first + 1) n)

lines-text_from : (first n : ℕ) → 1 ≤ first → first + n ≤ 65 → lines (text_from first n) ≡ map user_line (range_with_len first n)
lines-text_from first zero low high = refl
lines-text_from first (suc n) low high =
    ap lines (text_from-suc first n)
    ∙ first_line (user_line first) (text_from (first + 1) n) (line_is_plain first low (omega arith))
    ∙ ap (λ more. user_line first ∷ more) (lines-text_from (first + 1) n (omega arith) (omega arith))

text_is_ascii : (first n : ℕ) → 1 ≤ first → first + n ≤ 65 → All (λ byte. byte < 128) (text_from first n)
text_is_ascii first zero low high = All-nil (λ byte. byte < 128)
text_is_ascii first (suc n) low high =
    subst (λ (text : List ℕ). All (λ byte. byte < 128) text) (sym (text_from-suc first n))
    (All-append (λ byte. byte < 128) (user_line first) (10 ∷ text_from (first + 1) n) (line_is_plain first low (omega arith)).ascii
    (All-cons (λ byte. byte < 128) 10 (text_from (first + 1) n) (omega arith) (text_is_ascii (first + 1) n (omega arith) (omega arith))))

text_is_short : (first n : ℕ) → 1 ≤ first → first + n ≤ 65 → length (text_from first n) ≤ n * 16
text_is_short first zero low high = omega arith
text_is_short first (suc n) low high =
    omega (
      arith,
      ap length (text_from-suc first n),
      length-append (user_line first) (10 ∷ text_from (first + 1) n),
      (line_is_plain first low (omega arith)).short,
      text_is_short (first + 1) n (omega arith) (omega arith),
    )

-- ---- the table
abbrev user_lines : ℕ → List (List ℕ)
user_lines sessions = map user_line (range_with_len 1 sessions)

-- the most users that a load has are read
all_are_read : (users : Users) × (with_lines 1 nobody (user_lines 64) ≡ Ok users)
unfolding user_line digits chars
all_are_read = (_, refl)

abbrev AreRead : ℕ → Users → List (List ℕ) → Type 0
AreRead number begun some_lines = (users : Users) × (with_lines number begun some_lines ≡ Ok users)

-- and so are the first of lines that are
first_are_read : (number : ℕ) (begun : Users) (xs ys : List (List ℕ)) (all : Users) → with_lines number begun (xs ++ ys) ≡ Ok all → AreRead number begun xs
first_are_read number begun [] ys all whole = (begun, refl)
first_are_read number begun (x ∷ xs) ys all whole =
    by_line (λ users rest. first_are_read (number + 1) users xs ys all rest) (with_line number begun x) refl
  where
    by_line : ((users : Users) → with_lines (number + 1) users (xs ++ ys) ≡ Ok all → AreRead (number + 1) users xs)
        → (r : Result Users UsersFault) → with_line number begun x ≡ r → AreRead number begun (x ∷ xs)
    by_line more (Ok users) is_read =
        let rest = more users (sym (ap (λ (r : Result Users UsersFault). go_on r (λ u. with_lines (number + 1) u (xs ++ ys))) is_read) ∙ whole) in
        (rest.0, ap (λ (r : Result Users UsersFault). go_on r (λ u. with_lines (number + 1) u xs)) is_read ∙ rest.1)
    by_line more (Err found) is_read =
        let refused : Err found ≡ Ok all = sym (ap (λ (r : Result Users UsersFault). go_on r (λ u. with_lines (number + 1) u (xs ++ ys))) is_read) ∙ whole in
        absurd (cc)

table_of-lines : (text : List ℕ) → length text ≤ USERS_LIMIT → IsUtf8 text → table_of text ≡ with_lines 1 nobody (lines text)
table_of-lines text short utf8 =
    let test = le-ltb USERS_LIMIT (length text) short in
    let holds = is_utf8-from_IsUtf8 text utf8 in rw (test, holds) refl

users_text_is : (sessions : ℕ) → users_text sessions ≡ text_from 1 sessions
unfolding users_text
users_text_is sessions = refl

pub users_read : (sessions : ℕ) → sessions ≤ 64 → (users : Users) × (table_of (users_text sessions) ≡ Ok users)
users_read sessions few =
    let cut : user_lines sessions ++ drop sessions (user_lines 64) ≡ user_lines 64 =
    ap (λ front. front ++ drop sessions (user_lines 64)) (sym (take-map-range_with_len user_line 1 64 sessions few))
    ∙ take-append-drop sessions (user_lines 64) in
    let read = first_are_read 1 nobody (user_lines sessions) (drop sessions (user_lines 64)) all_are_read.0
    (ap (with_lines 1 nobody) cut ∙ all_are_read.1) in
    let utf8 = IsUtf8-from_ascii (text_from 1 sessions) (IsAscii-from_all (text_from 1 sessions) (text_is_ascii 1 sessions (omega arith) (omega arith))) in
    let short : length (text_from 1 sessions) ≤ USERS_LIMIT = omega (arith, text_is_short 1 sessions (omega arith) (omega arith)) in (
      read.0,
      ap table_of (users_text_is sessions) ∙ table_of-lines (text_from 1 sessions) short utf8
          ∙ ap (with_lines 1 nobody) (lines-text_from 1 sessions (omega arith) (omega arith)) ∙ read.1,
    )
