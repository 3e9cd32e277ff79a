-- What is read of the digits of a number.
use Rattle.std.proofs.Common.{◌≡◌, ℕ, ◌<◌, ◌^◌, true, List, Some, None, Result, Ok, Err, ap, ◌∙◌, IsUtf8, Bor, rules}
use Rattle.std.specs.Prelude.{MatchResult, decimal}
use Rattle.std.specs.Result.{result_ok}
use Rattle.std.specs.Char.{is_ascii_digit}
use Rattle.std.specs.List.{list_all}
use Rattle.std.specs.Str.Parse.{digits_value, ParsesUnsigned}
use Rattle.std.proofs.lemmas.Fmt.{IsAscii-decimal, digits_decimal, parse-decimal}
use Rattle.std.proofs.lemmas.Option.{same_Some}
use Rattle.std.proofs.lemmas.Str.{IsUtf8-from_ascii}
use Rattle.std.proofs.lemmas.Str.Parse.{IsNumeralModel, numerals_by_value}

-- digits, as std's lemmas read them
digits_model : IsNumeralModel (λ ds. list_all is_ascii_digit ds ≡ true) (digits_value 10)
digits_model = numerals_by_value _ (search rules)

pub decimal_digits : (n : ℕ) → n < 2 ^ 64 → list_all is_ascii_digit (decimal n) ≡ true
decimal_digits n small = digits_decimal digits_model n small

pub decimal_utf8 : (n : ℕ) → n < 2 ^ 64 → IsUtf8 (decimal n)
decimal_utf8 n small = IsUtf8-from_ascii (decimal n) (IsAscii-decimal n small)

-- the text of bytes
pub text_is : {E : Type 0} (P : E → Type 0) (bytes : List ℕ) (r : Result (Bor (List ℕ)) E) (text : Bor (List ℕ))
    → Some text ≡ result_ok r → MatchResult r (λ t. (t.now ≡ bytes) × IsUtf8 bytes) (λ e. ¬ (IsUtf8 bytes) × P e) → text.now ≡ bytes
text_is P bytes (Ok t) text is cases = ap (λ (u : Bor (List ℕ)). u.now) (same_Some text t is) ∙ cases.0
text_is P bytes (Err e) text is cases = absurd cc

-- bytes without a text
pub no_text : {E : Type 0} (P : E → Type 0) (bytes : List ℕ) (r : Result (Bor (List ℕ)) E)
    → None ≡ result_ok r → MatchResult r (λ t. (t.now ≡ bytes) × IsUtf8 bytes) (λ e. ¬ (IsUtf8 bytes) × P e) → IsUtf8 bytes → ⊥
no_text P bytes (Ok t) is cases utf8 = absurd cc
no_text P bytes (Err e) is cases utf8 = cases.0 utf8

pub parsed : {E : Type 0} (text digits : List ℕ) (n : ℕ) (r : Result ℕ E) → n < 2 ^ 64 → text ≡ digits → digits ≡ decimal n
    → ParsesUnsigned 64 10 text r → result_ok r ≡ Some n
parsed {E = E} text digits n r small same is parses = ap (λ (x : Result ℕ E). result_ok x) (parse-decimal 64 n text r small small (same ∙ is) parses)
