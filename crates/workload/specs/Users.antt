-- The users text of a load: user n of as many as there are sessions has the token `tn` and the name `mn`.
use Rattle.std.specs.Prelude.{◌≡◌, ℕ, List, ◌++◌, codes, decimal, flat_map, Ok}
use Rattle.std.specs.List.{range_with_len}
use Rattle.user_table.specs.Users.{Users, table_of}

-- the line of a user
unfoldable pub user_line : ℕ → List ℕ
user_line user = decimal user ++ codes " t" ++ decimal user ++ codes " user m" ++ decimal user

-- the users from 1 on; the byte 10 ends each line
unfoldable pub users_text : ℕ → List ℕ
users_text sessions = flat_map (λ user. user_line user ++ codes "\n") (range_with_len 1 sessions)

-- the users of a load of so many sessions
abbrev pub AreUsersOf : ℕ → Users → Type 0
AreUsersOf sessions users = table_of (users_text sessions) ≡ Ok users
