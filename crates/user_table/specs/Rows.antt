-- A user of the table, and the line of the users text that tells of one: `ID TOKEN ROLE NAME`; and the
-- line that tells of a moment.
use Rattle.std.specs.Prelude.{ℕ, Bool, true, false, ◌&&◌, ◌==◌, nat_lt, nat_le, List, length, codes, Option, Some, None, if◌then◌else◌}
use Rattle.std.specs.Option.{option_map, option_and_then}
use Rattle.std.specs.List.{list_all, position_or_len, before_first, after_first}
use Rattle.std.specs.Str.{bytes_eq, chars}
use Rattle.osm_base.specs.Number.{number_of, limit_of, whole_of}
use Rattle.osm_base.specs.declared.people.User.{User}
use Rattle.user_table.specs.declared.lines.Role.{Role}
use Rattle.osm_base.specs.declared.limits.TheConstants.{CHARACTER_LIMIT}

-- a user, and the token that shows who it is
pub record Row : Type 0 where
  pub token : List ℕ
  pub user : User

-- the byte 32
abbrev pub is_space : ℕ → Bool
is_space byte = byte == 32

-- the byte 47
abbrev pub is_slash : ℕ → Bool
is_slash byte = byte == 47

-- what stands before the first byte of a kind and what stands after it, where there is one
abbrev pub parted_at : (ℕ → Bool) → List ℕ → Option (List ℕ × List ℕ)
parted_at ends text = if nat_lt (position_or_len ends text) (length text) then Some (before_first ends text, after_first ends text) else None

abbrev pub parted : List ℕ → Option (List ℕ × List ℕ)
parted text = parted_at is_space text

-- a byte that is seen: from 33 to 126
abbrev pub is_token_byte : ℕ → Bool
is_token_byte byte = nat_le 33 byte && nat_le byte 126

-- 1 to 128 such bytes
abbrev pub is_token : List ℕ → Bool
is_token token = nat_lt 0 (length token) && nat_le (length token) 128 && list_all is_token_byte token

-- 1 to 255 characters
abbrev pub is_name : List ℕ → Bool
is_name name = nat_lt 0 (length (chars name)) && nat_le (length (chars name)) CHARACTER_LIMIT

-- whether the role is that of a moderator
abbrev pub moderator_of : List ℕ → Option Bool
moderator_of role = if bytes_eq role (codes "user") then Some false else (if bytes_eq role (codes "moderator") then Some true else None)

-- a role with a limit behind it, where each is one
abbrev pub limited : Option Bool → Option ℕ → Option Role
limited None limit = None
limited (Some moderator) None = None
limited (Some moderator) (Some limit) = Some (record { moderator = moderator; limit = Some limit })

-- the parts of a role, where there is a slash in it
abbrev pub role_of_parts : List ℕ → Option (List ℕ × List ℕ) → Option Role
role_of_parts role None = option_map (λ moderator. record { moderator = moderator; limit = None }) (moderator_of role)
role_of_parts role (Some parts) = limited (moderator_of parts.0) (limit_of parts.1)

-- `user` or `moderator`, or one of these, a slash and a limit
abbrev pub role_of : List ℕ → Option Role
role_of role = role_of_parts role (parted_at is_slash role)

-- the user with this id, token and role, where each is one
abbrev pub row_with : List ℕ → Option ℕ → Option Role → List ℕ → Option Row
row_with token None role name = None
row_with token (Some id) None name = None
row_with token (Some id) (Some role) name =
    if is_token token && is_name name
    then Some (record { token = token; user = record { id = id; name = name; moderator = role.moderator; limit = role.limit } }) else None

-- the user of the parts of a line
abbrev pub row_of_parts : List ℕ → List ℕ → List ℕ → List ℕ → Option Row
row_of_parts id token role name = row_with token (number_of id) (role_of role) name

-- the line after its id and its token
abbrev pub row_after_token : List ℕ → List ℕ → List ℕ → Option Row
row_after_token id token rest = option_and_then (λ part. row_of_parts id token part.0 part.1) (parted rest)

-- the line after its id
abbrev pub row_after_id : List ℕ → List ℕ → Option Row
row_after_id id rest = option_and_then (λ part. row_after_token id part.0 part.1) (parted rest)

-- the user of a line: four parts, parted by single spaces, of which the name is the rest
abbrev pub row_of : List ℕ → Option Row
row_of line = option_and_then (λ part. row_after_id part.0 part.1) (parted line)

-- the moment of the parts of a line
abbrev pub moment_of_parts : List ℕ × List ℕ → Option ℕ
moment_of_parts parts = if bytes_eq parts.0 (codes "@large-from") then whole_of parts.1 else None

-- the moment of a line: its word, a single space, digits alone
abbrev pub moment_of : List ℕ → Option ℕ
moment_of line = option_and_then moment_of_parts (parted line)
