-- What the tests of reading tell.
use Rattle.std.proofs.Common.{◌≡◌, ℕ, ◌≤◌, List, length, take, drop, Some, None, refl}
use Rattle.std.specs.Str.{IsUtf8, is_utf8}
use Rattle.std.proofs.lemmas.Bool.{le-ltb, false_from_ne_true}
use Rattle.std.proofs.lemmas.Str.{IsUtf8-from_is_utf8, is_utf8-from_IsUtf8}
use Rattle.packed_entry.specs.Read.{text_of}

pub text_there : (n : ℕ) (bytes text front rest : List ℕ) → n ≤ length bytes → front ≡ take n bytes → rest ≡ drop n bytes → text ≡ front → IsUtf8 front → text_of n bytes ≡ Some (text, rest)
text_there n bytes text front rest long is_front is_rest is_text utf8 =
    let test = is_utf8-from_IsUtf8 front utf8 in
    rw (is_text, is_rest, le-ltb (length bytes) n long, ← is_front, test) refl

pub no_text : (n : ℕ) (bytes front : List ℕ) → n ≤ length bytes → front ≡ take n bytes → (IsUtf8 front → ⊥) → text_of n bytes ≡ None
no_text n bytes front long is_front not_utf8 =
    let test = false_from_ne_true (is_utf8 front) (λ e. not_utf8 (IsUtf8-from_is_utf8 front e)) in
    rw (le-ltb (length bytes) n long, ← is_front, test) refl
