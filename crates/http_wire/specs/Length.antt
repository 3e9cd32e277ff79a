-- The length of a body, as the Content-Length fields give it (RFC 9110, section 8.6; RFC 9112, section 6.3).
use Rattle.std.specs.Prelude.{ℕ, Bool, ◌&&◌, ◌==◌, nat_lt, List, [], ◌∷◌, length, codes, Option, None, Some, if◌then◌else◌}
use Rattle.std.specs.Char.{is_ascii_digit}
use Rattle.std.specs.List.{list_all}
use Rattle.std.specs.Str.Parse.{digits_value}
use Rattle.http_wire.specs.Fields.{NamedValue, values_of}

-- digits alone, at least one
abbrev pub is_numeral : List ℕ → Bool
is_numeral text = nat_lt 0 (length text) && list_all is_ascii_digit text

-- the text is digits that write this number
abbrev pub writes_number : ℕ → List ℕ → Bool
writes_number n text = is_numeral text && (digits_value 10 text == n)

-- The number that each of the values writes, however large. Without a value it is 0.
abbrev pub length_of : List (List ℕ) → Option ℕ
length_of [] = Some 0
length_of (value ∷ values) =
    if list_all (writes_number (digits_value 10 value)) (value ∷ values) then Some (digits_value 10 value) else None

-- the length that the Content-Length fields give the body
abbrev pub body_length : List NamedValue → Option ℕ
body_length fields = length_of (values_of (codes "content-length") fields)

-- the digits from the first that isn't 0 on
abbrev pub without_zeros : List ℕ → List ℕ
without_zeros [] = []
without_zeros (digit ∷ digits) = if digit == 48 then without_zeros digits else digit ∷ digits
