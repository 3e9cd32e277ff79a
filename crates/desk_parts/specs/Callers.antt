-- Who sent a message, by the users of the server.
use Rattle.std.specs.Prelude.{ℕ, List, map, slice_get, option_map, Option, Some, None, Result, Ok, Err}
use Rattle.std.specs.Option.{option_map_or}
use Rattle.osm_base.specs.declared.people.Owner.{Owner}
use Rattle.osm_base.specs.declared.people.User.{User}
use Rattle.osm_change.specs.declared.refusals.Refusal.{Refusal}
use Rattle.osm_change.specs.declared.refusals.Refusal.TheVariants.{NoUser}
use Rattle.http_wire.specs.declared.message.Message.{Message}
use Rattle.user_table.specs.declared.tables.Who.{Who}
use Rattle.user_table.specs.declared.tables.Who.TheVariants.{Anonymous, Known, Unknown}
use Rattle.user_table.specs.Rows.{Row}
use Rattle.user_table.specs.Users.{Users}
use Rattle.user_table.specs.Who.{who_of}

-- the user at a place of the table
abbrev pub user_at : List Row → ℕ → Result (Option User) Refusal
user_at rows place = option_map_or (λ user. Ok (Some user)) (slice_get (map (λ row. row.user) rows) place) (Err NoUser)

-- nobody who says who it is, or a user of the table; another is refused
abbrev pub caller_in : List Row → Who → Result (Option User) Refusal
caller_in rows Anonymous = Ok None
caller_in rows (Known place) = user_at rows place
caller_in rows Unknown = Err NoUser

abbrev pub caller_of : Users → Message → Result (Option User) Refusal
caller_of users m = caller_in users.rows (who_of users.rows m.authorization)

-- the caller as the owner of what it makes
abbrev pub owner_of : Option User → Option Owner
owner_of caller = option_map (λ user. record { id = user.id; name = user.name }) caller
