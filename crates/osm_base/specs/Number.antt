-- The numbers of paths and of the users text: ids and versions.
use Rattle.std.specs.Prelude.{ℕ, ◌^◌, Bool, ◌&&◌, nat_lt, nat_le, List, length, Option, Some, None, if◌then◌else◌}
use Rattle.std.specs.List.{list_all}
use Rattle.std.specs.Char.{is_ascii_digit}
use Rattle.std.specs.Str.Parse.{digits_value}

-- the most digits of a number, leading zeros included
abbrev pub digit_limit : ℕ
digit_limit = 19

-- one to nineteen digits
abbrev pub is_digits : List ℕ → Bool
is_digits text = nat_lt 0 (length text) && nat_le (length text) digit_limit && list_all is_ascii_digit text

-- from 1 to 9,223,372,036,854,775,807
abbrev pub is_number : ℕ → Bool
is_number value = nat_lt 0 value && nat_lt value (2 ^ 63)

-- the number, where it is one
abbrev pub checked_number : ℕ → Option ℕ
checked_number value = if is_number value then Some value else None

-- the number that a text gives
abbrev pub number_of : List ℕ → Option ℕ
number_of text = if is_digits text then checked_number (digits_value 10 text) else None

-- up to 9,223,372,036,854,775,807
abbrev pub checked_limit : ℕ → Option ℕ
checked_limit value = if nat_lt value (2 ^ 63) then Some value else None

-- the limit that a text gives: zero is one
abbrev pub limit_of : List ℕ → Option ℕ
limit_of text = if is_digits text then checked_limit (digits_value 10 text) else None

-- one digit at least, and nothing else
abbrev pub is_whole : List ℕ → Bool
is_whole text = nat_lt 0 (length text) && list_all is_ascii_digit text

-- the number of digits alone, where it fits 64 bits; zeros may lead
abbrev pub whole_of : List ℕ → Option ℕ
whole_of text = if is_whole text && nat_lt (digits_value 10 text) (2 ^ 64) then Some (digits_value 10 text) else None
