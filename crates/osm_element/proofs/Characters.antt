-- How many characters a text has.
use Rattle.std.proofs.Common.{◌≡◌, ℕ, ◌≤◌, List, length, subst, nat_lt, ap, ◌∙◌, arith}
use Rattle.std.specs.Prelude.{IsUtf8, chars}
use Rattle.std.proofs.lemmas.Str.{encodes-chars, length-le-encodes}
use Rattle.std.proofs.lemmas.Bool.Decides.{nat_tests}
use Rattle.osm_element.specs.Limits.{is_long}

-- a text has no more characters than bytes
pub length-chars : (text : List ℕ) → IsUtf8 text → length (chars text) ≤ length text
length-chars text u =
    let P : List ℕ → Type 0 = λ bytes. length (chars text) ≤ length bytes in
    subst P (encodes-chars text u) (length-le-encodes (chars text))

pub is_long-few : (text read : List ℕ) → read ≡ text → IsUtf8 read → length read ≤ 255 → nat_lt 255 (length read) ≡ is_long text
is_long-few text read same u few =
    let most : length (chars read) ≤ length read = length-chars read u in
    let here : nat_lt 255 (length read) ≡ is_long read = grind (arith, nat_tests) in
    here ∙ ap is_long same
