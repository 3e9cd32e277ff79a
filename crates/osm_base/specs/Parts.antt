-- A text cut at a byte.
use Rattle.std.specs.Prelude.{ℕ, Bool, ◌==◌, nat_lt, List, length, Option, Some, None, if◌then◌else◌}
use Rattle.std.specs.List.{position_or_len, before_first, after_first, slice_split}

abbrev pub is_byte : ℕ → ℕ → Bool
is_byte separator byte = byte == separator

-- what stands before the first such byte and what stands behind it, where there is one
abbrev pub parted : ℕ → List ℕ → Option (List ℕ × List ℕ)
parted separator text =
    if nat_lt (position_or_len (is_byte separator) text) (length text) then Some (before_first (is_byte separator) text, after_first (is_byte separator) text)
    else None

-- what stands between such bytes: one part more than there are of them
abbrev pub parts_of : ℕ → List ℕ → List (List ℕ)
parts_of separator text = slice_split (is_byte separator) text
