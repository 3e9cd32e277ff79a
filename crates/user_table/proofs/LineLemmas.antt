-- One more line, and the whole text.
use Rattle.std.proofs.Common.{◌≡◌, ℕ, ◌+◌, ◌<◌, ◌≤◌, Bool, true, false, cond, List, [], ◌∷◌, length, drop, get_or, Result, Ok, Err, eqb, refl, sym, ap, ◌∙◌, subst, arith}
use Rattle.std.specs.List.{slice_split}
use Rattle.std.specs.Str.{IsUtf8, is_utf8}
use Rattle.std.specs.Str.Lines.{lines, lines_of_parts}
use Rattle.std.proofs.lemmas.List.{at_drop_more, at_drop_all}
use Rattle.std.proofs.lemmas.List.Splits.{length-slice_split}
use Rattle.std.proofs.lemmas.List.Sums.{count_by-le-length}
use Rattle.std.proofs.lemmas.Str.{IsUtf8-from_is_utf8, is_utf8-from_IsUtf8}
use Rattle.std.proofs.lemmas.Bool.{le-ltb}
use Rattle.osm_base.specs.declared.limits.TheConstants.{USERS_LIMIT}
use Rattle.user_table.specs.Users.{Users, nobody, go_on, with_line, with_lines, table_of, Refuses}
use Rattle.user_table.specs.declared.faults.UsersFault.{UsersFault}
use Rattle.user_table.specs.declared.faults.UsersFault.TheVariants as fault

-- the lines from a place on: the one there, and the rest
pub with_lines-drop : (n : ℕ) (rows : Users) (all : List (List ℕ)) (line : List ℕ) → (n < length all) × (line ≡ get_or all n line) → with_lines (n + 1) rows (drop n all) ≡ go_on (with_line (n + 1) rows line) (λ users. with_lines (n + 1 + 1) users (drop (n + 1) all))
with_lines-drop n rows all line at =
    at_drop_more (with_lines (n + 1) rows) all n line at.0
    ∙ ap (λ (there : List ℕ). go_on (with_line (n + 1) rows there) (λ users. with_lines (n + 1 + 1) users (drop (n + 1) all))) (sym at.1)

-- a line without a fault
pub line_passes : (n : ℕ) (rows left : Users) (all : List (List ℕ)) (line : List ℕ) (whole : Result Users UsersFault) → (n < length all) × (line ≡ get_or all n line) → with_lines (n + 1) rows (drop n all) ≡ whole → with_line (n + 1) rows line ≡ Ok left → with_lines (n + 1 + 1) left (drop (n + 1) all) ≡ whole
line_passes n rows left all line whole at kept passed =
    sym (ap (λ (r : Result Users UsersFault). go_on r (λ users. with_lines (n + 1 + 1) users (drop (n + 1) all))) passed)
    ∙ sym (with_lines-drop n rows all line at) ∙ kept

Refuses-go_on : (expected : Result Users UsersFault) (next : Users → Result Users UsersFault) (found : UsersFault) → Refuses expected found → Refuses (go_on expected next) found
Refuses-go_on expected next fault.Long refused = ap (λ (r : Result Users UsersFault). go_on r next) refused
Refuses-go_on expected next fault.NotUtf8 refused = ap (λ (r : Result Users UsersFault). go_on r next) refused
Refuses-go_on expected next (fault.Line n) refused = ap (λ (r : Result Users UsersFault). go_on r next) refused
Refuses-go_on expected next (fault.DoubleId n) refused = ap (λ (r : Result Users UsersFault). go_on r next) refused
Refuses-go_on expected next (fault.DoubleToken n) refused = ap (λ (r : Result Users UsersFault). go_on r next) refused
Refuses-go_on expected next (fault.DoubleName n) refused = ap (λ (r : Result Users UsersFault). go_on r next) refused
Refuses-go_on expected next fault.Memory refused = refused

-- a line with a fault
pub line_fails : (n : ℕ) (rows : Users) (all : List (List ℕ)) (line : List ℕ) (whole : Result Users UsersFault) (found : UsersFault) → (n < length all) × (line ≡ get_or all n line) → with_lines (n + 1) rows (drop n all) ≡ whole → Refuses (with_line (n + 1) rows line) found → Refuses whole found
line_fails n rows all line whole found at kept refused =
    subst (λ (r : Result Users UsersFault). Refuses r found) (sym (with_lines-drop n rows all line at) ∙ kept)
    (Refuses-go_on (with_line (n + 1) rows line) (λ users. with_lines (n + 1 + 1) users (drop (n + 1) all)) found refused)

-- after the last line
pub no_line_left : (n : ℕ) (rows : Users) (all : List (List ℕ)) → length all ≤ n → with_lines (n + 1) rows (drop n all) ≡ Ok rows
no_line_left n rows all end = at_drop_all (with_lines (n + 1) rows) all n end

-- ---- how many lines there are
length-lines_of_parts-le : (parts : List (List ℕ)) → length (lines_of_parts parts) ≤ length parts
length-lines_of_parts-le [] = omega arith
length-lines_of_parts-le (part ∷ []) = last (eqb (length part) 0)
  where
    last : (b : Bool) → length (cond b [] (part ∷ [])) ≤ 1
    last true = omega arith
    last false = omega arith
length-lines_of_parts-le (part ∷ more ∷ parts) = omega (arith, length-lines_of_parts-le (more ∷ parts))

pub length-lines-le : (text : List ℕ) → length (lines text) ≤ length text + 1
length-lines-le text =
    omega (arith, length-lines_of_parts-le (slice_split (λ b. eqb b 10) text), length-slice_split (λ b. eqb b 10) text, count_by-le-length (λ b. eqb b 10) text)

-- what is there at a count is there at a number that is it
pub at_number : (n count : ℕ) (all : List (List ℕ)) (line : List ℕ) → n ≡ count → (count < length all) × (line ≡ get_or all count line) → (n < length all) × (line ≡ get_or all n line)
at_number n count all line same at = subst (λ (k : ℕ). (k < length all) × (line ≡ get_or all k line)) (sym same) at

-- ---- the whole text
pub table_of-not_utf8 : (text : List ℕ) → length text ≤ USERS_LIMIT → ¬ (IsUtf8 text) → table_of text ≡ Err fault.NotUtf8
table_of-not_utf8 text short not_utf8 =
    let test = le-ltb USERS_LIMIT (length text) short in
    let utf8 = not_test (is_utf8 text) (λ h. not_utf8 (IsUtf8-from_is_utf8 text h)) in rw (test, utf8) refl
  where
    not_test : (b : Bool) → ¬ (b ≡ true) → b ≡ false
    not_test true h = absurd (h refl)
    not_test false h = refl

pub table_of-lines : (text : List ℕ) → length text ≤ USERS_LIMIT → IsUtf8 text → table_of text ≡ with_lines 1 nobody (lines text)
table_of-lines text short utf8 =
    let test = le-ltb USERS_LIMIT (length text) short in
    let holds = is_utf8-from_IsUtf8 text utf8 in rw (test, holds) refl

-- the lines of a text that is short enough and UTF-8 give its table, and its faults
pub lines_give : (text read : List ℕ) (rows : Users) → length text ≤ USERS_LIMIT → IsUtf8 text → read ≡ text → with_lines 1 nobody (lines read) ≡ Ok rows → table_of text ≡ Ok rows
lines_give text read rows short utf8 same gives =
    table_of-lines text short utf8 ∙ sym (ap (λ (bytes : List ℕ). with_lines 1 nobody (lines bytes)) same) ∙ gives

pub lines_refuse : (text read : List ℕ) (found : UsersFault) → length text ≤ USERS_LIMIT → IsUtf8 text → read ≡ text → Refuses (with_lines 1 nobody (lines read)) found → Refuses (table_of text) found
lines_refuse text read found short utf8 same refused =
    subst (λ (r : Result Users UsersFault). Refuses r found)
    (ap (λ (bytes : List ℕ). with_lines 1 nobody (lines bytes)) same ∙ sym (table_of-lines text short utf8)) refused
