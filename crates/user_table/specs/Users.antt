-- The table of a users text: its users, and the moment from which new changesets may grow large.
use Rattle.std.specs.Prelude.{◌≡◌, ⊤, ℕ, ◌+◌, Bool, true, false, ◌==◌, nat_lt, List, [], ◌∷◌, ◌++◌, length, is_some, Option, Some, None, Result, Ok, Err, if◌then◌else◌}
use Rattle.std.specs.List.{list_any}
use Rattle.std.specs.Str.{bytes_eq, is_utf8}
use Rattle.std.specs.Str.Lines.{lines}
use Rattle.osm_base.specs.declared.limits.TheConstants.{USERS_LIMIT}
use Rattle.user_table.specs.Rows.{Row, row_of, moment_of}
use Rattle.user_table.specs.declared.faults.UsersFault.{UsersFault}
use Rattle.user_table.specs.declared.faults.UsersFault.TheVariants as fault

-- the users in the order of their lines, and the moment, where there is one
pub record Users : Type 0 where
  pub rows : List Row
  pub large_from : Option ℕ

abbrev pub nobody : Users
nobody = record { rows = []; large_from = None }

-- an empty line, or one that begins with `#`
abbrev pub is_skipped : List ℕ → Bool
is_skipped [] = true
is_skipped (byte ∷ bytes) = byte == 35

-- a line that begins with `@`
abbrev pub is_setting : List ℕ → Bool
is_setting [] = false
is_setting (byte ∷ bytes) = byte == 64

-- a user has the id, the token, the name
abbrev pub has_id : List Row → ℕ → Bool
has_id rows id = list_any (λ row. id == row.user.id) rows

abbrev pub has_token : List Row → List ℕ → Bool
has_token rows token = list_any (λ row. bytes_eq token row.token) rows

abbrev pub has_name : List Row → List ℕ → Bool
has_name rows name = list_any (λ row. bytes_eq name row.user.name) rows

abbrev pub with_user : Users → Row → Users
with_user users row = record users { rows = users.rows ++ row ∷ [] }

-- the users with one more, whose line has the number
abbrev pub with_row : ℕ → Users → Row → Result Users UsersFault
with_row number users row =
    if has_id users.rows row.user.id then Err (fault.DoubleId number)
    else (if has_token users.rows row.token then Err (fault.DoubleToken number)
    else (if has_name users.rows row.user.name then Err (fault.DoubleName number)
    else Ok (with_user users row)))

-- the same, where the line may not tell of a user
abbrev pub with_reading : ℕ → Users → Option Row → Result Users UsersFault
with_reading number users None = Err (fault.Line number)
with_reading number users (Some row) = with_row number users row

-- the moment, where the line tells of one and none before did
abbrev pub with_moment : ℕ → Users → Option ℕ → Result Users UsersFault
with_moment number users None = Err (fault.Line number)
with_moment number users (Some moment) =
    if is_some users.large_from then Err (fault.Line number) else Ok (record users { large_from = Some moment })

-- after a line that isn't skipped
abbrev pub with_told : ℕ → Users → List ℕ → Result Users UsersFault
with_told number users line = if is_setting line then with_moment number users (moment_of line) else with_reading number users (row_of line)

-- the users after a line
abbrev pub with_line : ℕ → Users → List ℕ → Result Users UsersFault
with_line number users line = if is_skipped line then Ok users else with_told number users line

-- goes on with the users, where there is no fault
abbrev pub go_on : Result Users UsersFault → (Users → Result Users UsersFault) → Result Users UsersFault
go_on (Ok users) next = next users
go_on (Err found) next = Err found

-- the users after lines of which the first has the number; the first line with a fault ends it
abbrev pub with_lines : ℕ → Users → List (List ℕ) → Result Users UsersFault
with_lines number users [] = Ok users
with_lines number users (line ∷ more) = go_on (with_line number users line) (λ after. with_lines (number + 1) after more)

-- the table of a text: its lines are counted from 1
abbrev pub table_of : List ℕ → Result Users UsersFault
table_of text = if nat_lt USERS_LIMIT (length text) then Err fault.Long
    else (if is_utf8 text then with_lines 1 nobody (lines text) else Err fault.NotUtf8)

-- a fault is the expected one, but for want of memory, which may come at any time
abbrev pub Refuses : {A : Type 0} → Result A UsersFault → UsersFault → Type 0
Refuses expected fault.Long = expected ≡ Err fault.Long
Refuses expected fault.NotUtf8 = expected ≡ Err fault.NotUtf8
Refuses expected (fault.Line n) = expected ≡ Err (fault.Line n)
Refuses expected (fault.DoubleId n) = expected ≡ Err (fault.DoubleId n)
Refuses expected (fault.DoubleToken n) = expected ≡ Err (fault.DoubleToken n)
Refuses expected (fault.DoubleName n) = expected ≡ Err (fault.DoubleName n)
Refuses expected fault.Memory = ⊤

-- an answer is the expected one, but for want of memory
abbrev pub Gives : {A : Type 0} → Result A UsersFault → Result A UsersFault → Type 0
Gives expected (Ok made) = expected ≡ Ok made
Gives expected (Err found) = Refuses expected found

-- a step answers as expected and leaves the users, but for want of memory
abbrev pub Leads : {A B : Type 0} → Result A UsersFault → Result B UsersFault → A → Type 0
Leads expected (Ok done) left = expected ≡ Ok left
Leads expected (Err found) left = Refuses expected found
