-- How a table keeps its users, and what holds while it is made.
use Rattle.std.specs.Prelude.{◌≡◌, ℕ, List, map, Vec}
use Rattle.std.specs.Borrow.{Bor}
use Rattle.std.specs.declared.alloc.Global.{Global}
use Rattle.osm_base.specs.declared.people.User.{User}
use Rattle.user_table.specs.Rows.{Row}
use Rattle.user_table.specs.Users.{Users}
use Rattle.user_table.specs.declared.drafts.Draft.{Draft}
use Rattle.user_table.specs.declared.lines.Listed.{Listed}

-- the users under their tokens, in the order of their lines
abbrev pub rows_of : List (Vec ℕ Global × User) → List Row
rows_of entries = map (λ entry. record { token = entry.0.items; user = entry.1 }) entries

-- what a draft has so far
abbrev pub users_of : Draft → Users
users_of draft = record { rows = rows_of draft.users.entries; large_from = draft.large_from }

-- what the texts are
abbrev pub texts_of : List (Bor (List ℕ)) → List (List ℕ)
texts_of names = map (λ name. name.now) names

-- the sets have each id and each name
pub record IsIndexed (draft : Draft) : Type 0 where
  pub ids : draft.ids.keys ≡ map (λ row. row.user.id) (rows_of draft.users.entries)
  pub names : texts_of draft.names.keys ≡ map (λ row. row.user.name) (rows_of draft.users.entries)

-- the user of a line, as the table has it
abbrev pub shown : Listed → Row
shown listed = record {
  token = listed.token.now;
  user = record { id = listed.id; name = listed.name.now; moderator = listed.role.moderator; limit = listed.role.limit };
}
