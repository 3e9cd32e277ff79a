-- What reading the users comes to.
use Rattle.std.specs.Prelude.{◌≡◌, ℕ, ◌+◌, List, take, IfSome, Result, Ok, Err, ⊤}
use Rattle.osm_base.specs.declared.limits.TheConstants.{USERS_LIMIT}
use Rattle.osm_outside.specs.Told.{Rose}
use Rattle.osm_outside.specs.Host.{HostTold, OnlyAsked}
use Rattle.user_table.specs.Users.{Users, table_of}
use Rattle.user_table.specs.declared.faults.UsersFault.{UsersFault}
use Rattle.server_frame.specs.declared.users.NoUsers.{NoUsers}
use Rattle.server_frame.specs.declared.users.NoUsers.TheVariants.{Failed, Refused, Memory}

-- The text is refused.
abbrev pub IsRefused : List ℕ → Type 0
IsRefused text = (fault : UsersFault) × (table_of text ≡ Err fault)

-- a text gives its table, unless memory ran out
abbrev pub GivesTable : List ℕ → Result Users NoUsers → Type 0
GivesTable text (Ok users) = table_of text ≡ Ok users
GivesTable text (Err Failed) = ⊥
GivesTable text (Err Refused) = IsRefused text
GivesTable text (Err Memory) = ⊤

-- The bytes are the first of the text that the host tells, one more than a users text may have.
abbrev pub IsTextOf : HostTold → List ℕ → Type 0
IsTextOf host bytes = IfSome host.users (λ text. bytes ≡ take (USERS_LIMIT + 1) text)

-- What was read from the host.
abbrev pub Found : HostTold → HostTold → Result Users NoUsers → Type 0
Found before after (Ok users) = (text : List ℕ) × IsTextOf before text × (table_of text ≡ Ok users)
Found before after (Err Failed) = Rose before.faults after.faults
Found before after (Err Refused) = (text : List ℕ) × IsTextOf before text × IsRefused text
Found before after (Err Memory) = ⊤

-- the same, at that path and no other, and nothing else of the host changed but its count of faults
pub record ReadsUsers (path : List ℕ) (before after : HostTold) (result : Result Users NoUsers) : Type 0 where
  pub found : Found before after result
  pub keeps : OnlyAsked path before after
