-- What parsing digits gives.
use Rattle.std.proofs.Common.{◌≡◌, ℕ, ◌<◌, ◌^◌, Bool, true, false, ◌&&◌, List, length, Some, None, Result, Ok, Err, sym, ap, ◌∙◌, ⊎_elim}
use Rattle.std.specs.Prelude.{nat_lt, if◌then◌else◌}
use Rattle.std.specs.Str.Parse.{digits_value, ParsesUnsigned}
use Rattle.std.specs.Result.{OkIff}
use Rattle.std.proofs.lemmas.Bool.{and_parts, cases_Bool, ltb-true, lt-ltb}
use Rattle.std.proofs.lemmas.Str.Parse.{parse_digits}
use Rattle.osm_base.proofs.NumberLemmas.{digits_model}
use Rattle.osm_base.specs.Number.{is_whole, whole_of}

chosen : (digits fits : Bool) (n : ℕ) → digits ≡ true → fits ≡ true → Some n ≡ (if digits && fits then Some n else None)
chosen digits fits n d f = sym (ap (λ (a : Bool). if a && fits then Some n else None) d ∙ ap (λ (b : Bool). if true && b then Some n else None) f)

unfit : (digits fits : Bool) (n : ℕ) → digits ≡ true → fits ≡ false → None ≡ (if digits && fits then Some n else None)
unfit digits fits n d f = sym (ap (λ (a : Bool). if a && fits then Some n else None) d ∙ ap (λ (b : Bool). if true && b then Some n else None) f)

parsed : (E : Type 0) (text : List ℕ) (r : Result ℕ E) → ParsesUnsigned 64 10 text r → is_whole text ≡ true
    → OkIff r ((0 < length text) × (digits_value 10 text < 2 ^ 64)) (digits_value 10 text)
parsed E text r gives digits = parse_digits digits_model 64 text r gives (and_parts _ _ digits).1

-- the number, where it is read
pub number_read : (E : Type 0) (text : List ℕ) (n : ℕ) → ParsesUnsigned {E = E} 64 10 text (Ok n) → is_whole text ≡ true → Some n ≡ whole_of text
number_read E text n gives digits =
    let read : ((0 < length text) × (digits_value 10 text < 2 ^ 64)) × (n ≡ digits_value 10 text) = parsed E text (Ok n) gives digits in
    ap (λ (k : ℕ). Some k) read.1
    ∙ chosen (is_whole text) (nat_lt (digits_value 10 text) (2 ^ 64)) (digits_value 10 text) digits (lt-ltb (digits_value 10 text) (2 ^ 64) read.0.1)

-- no number, where it doesn't fit
pub number_unread : (E : Type 0) (text : List ℕ) (e : E) → ParsesUnsigned {E = E} 64 10 text (Err e) → is_whole text ≡ true → None ≡ whole_of text
number_unread E text e gives digits =
    let unread : ¬ ((0 < length text) × (digits_value 10 text < 2 ^ 64)) = parsed E text (Err e) gives digits in
    let some : 0 < length text = ltb-true 0 (length text) (and_parts _ _ digits).0 in
    ⊎_elim
    (λ fits. absurd (unread (some, ltb-true (digits_value 10 text) (2 ^ 64) fits)))
    (λ large. unfit (is_whole text) (nat_lt (digits_value 10 text) (2 ^ 64)) (digits_value 10 text) digits large)
    (cases_Bool (nat_lt (digits_value 10 text) (2 ^ 64)))
