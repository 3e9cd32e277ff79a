-- Who sent a request, by its Authorization field (RFC 6750, section 2.1).
use Rattle.std.specs.Prelude.{⊤, ℕ, ◌-◌, ◌<◌, Bool, ◌&&◌, ◌||◌, ◌==◌, List, length, take, drop, slice_index, codes, Option, Some, None, position, if◌then◌else◌}
use Rattle.std.specs.Option.{option_and_then}
use Rattle.std.specs.List.{prefix_len, suffix_len}
use Rattle.std.specs.Str.{bytes_eq, str_eq_ignore_ascii_case}
use Rattle.user_table.specs.Rows.{Row}
use Rattle.user_table.specs.declared.tables.Who.{Who}
use Rattle.user_table.specs.declared.tables.Who.TheVariants.{Anonymous, Known, Unknown}

-- a space or a tab
abbrev pub is_gap : ℕ → Bool
is_gap byte = (byte == 32) || (byte == 9)

abbrev pub trimmed_start : List ℕ → List ℕ
trimmed_start bytes = drop (prefix_len is_gap bytes) bytes

abbrev pub trimmed_end : List ℕ → List ℕ
trimmed_end bytes = take (length bytes - suffix_len is_gap bytes) bytes

-- the bytes without the spaces and tabs at both ends
abbrev pub trimmed : List ℕ → List ℕ
trimmed bytes = trimmed_end (trimmed_start bytes)

-- the bytes begin with the word `Bearer`, in letters of any case, and a space
abbrev pub is_bearer : List ℕ → Bool
is_bearer bytes = str_eq_ignore_ascii_case (take 6 bytes) (codes "Bearer") && (slice_index bytes 6 == 32)

-- the token of a header: `Bearer`, one or more spaces, the token, cut of spaces and tabs at both ends
abbrev pub token_of : List ℕ → Option (List ℕ)
token_of header = if is_bearer (trimmed header) then Some (trimmed (drop 6 (trimmed header))) else None

-- the place of the user with the token
abbrev pub place_of : List Row → List ℕ → Option ℕ
place_of rows token = position (λ row. bytes_eq token row.token) rows

abbrev pub who_at : Option ℕ → Who
who_at None = Unknown
who_at (Some place) = Known place

-- who sent a request with this header
abbrev pub who_of : List Row → Option (List ℕ) → Who
who_of rows None = Anonymous
who_of rows (Some header) = who_at (option_and_then (place_of rows) (token_of header))

-- the place of a known user is one of the table's
abbrev pub IsWithin : List Row → Who → Type 0
IsWithin rows Anonymous = ⊤
IsWithin rows (Known place) = place < length rows
IsWithin rows Unknown = ⊤
