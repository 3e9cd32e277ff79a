-- What the tokens of a line are read as, token by token: members in their order, and no other ones.
use Rattle.std.specs.Prelude.{ℕ, ◌^◌, ◌==◌, nat_lt, ℤ, pos, neg_ℤ, List, [], ◌∷◌, codes, if◌then◌else◌, Option, Some, None, option_map}
use Rattle.std.specs.Str.{bytes_eq}
use Rattle.json.specs.Token.{Token}
use Rattle.serde_json.specs.Find.{as_str}
use Rattle.osm_base.specs.Number.{whole_of}
use Rattle.osm_base.specs.Place.{Position, is_position}
use Rattle.osm_base.specs.declared.people.Owner.{Owner}
use Rattle.osm_json.specs.Again.{natural_of}
use Rattle.notes_core.specs.declared.commands.NoteCommand.{NoteCommand}
use Rattle.notes_core.specs.declared.commands.NoteCommand.TheVariants.{OpenNote, Comment, CloseNote, Reopen}
use Rattle.notes_core.specs.declared.commands.NoteEntry.{NoteEntry}
use Rattle.json_line.specs.Read.{Parsed, ◌>>=◌, begin_next, end_next, key_next, member_next, session_next}

-- ---- positions

abbrev pub if_short : Option ℕ → Option ℕ
if_short None = None
if_short (Some n) = if nat_lt n (2 ^ 31) then Some n else None

-- the number of digits alone, below 2^31
abbrev pub short_of : List ℕ → Option ℕ
short_of text = if_short (whole_of text)

-- such a number, negative behind a minus
unfoldable pub units_of : List ℕ → Option ℤ
units_of [] = None
units_of (first ∷ rest) = if first == 45 then option_map (λ n. neg_ℤ (pos n)) (short_of rest) else option_map pos (short_of (first ∷ rest))

abbrev pub units_next : List Token → Parsed ℤ
units_next (Token.number text ∷ ts) = option_map (λ z. (z, ts)) (units_of text)
units_next ts = None

abbrev pub coordinate_next : List ℕ → List Token → Parsed ℤ
coordinate_next name ts = key_next name ts >>= λ _ ts. units_next ts

-- what lies on the globe
abbrev pub placed : ℤ → ℤ → List Token → Parsed Position
placed lat7 lon7 ts = if is_position lat7 lon7 then Some (record { lat7 = lat7; lon7 = lon7 }, ts) else None

unfoldable pub position_next : List Token → Parsed Position
position_next ts =
    coordinate_next (codes "lat7") ts >>= λ lat7 ts.
    coordinate_next (codes "lon7") ts >>= λ lon7 ts.
    placed lat7 lon7 ts

-- ---- the members of a command behind its act

unfoldable pub opening_next : List Token → Parsed NoteCommand
opening_next ts =
    position_next ts >>= λ at ts.
    member_next (codes "text") as_str ts >>= λ text ts.
    Some (OpenNote at text, ts)

unfoldable pub comment_next : List Token → Parsed NoteCommand
comment_next ts =
    member_next (codes "id") natural_of ts >>= λ id ts.
    member_next (codes "text") as_str ts >>= λ text ts.
    Some (Comment id text, ts)

unfoldable pub closing_next : List Token → Parsed NoteCommand
closing_next ts =
    member_next (codes "id") natural_of ts >>= λ id ts.
    member_next (codes "text") as_str ts >>= λ text ts.
    Some (CloseNote id text, ts)

unfoldable pub reopening_next : List Token → Parsed NoteCommand
reopening_next ts =
    member_next (codes "id") natural_of ts >>= λ id ts.
    member_next (codes "text") as_str ts >>= λ text ts.
    Some (Reopen id text, ts)

unfoldable pub by_act : List ℕ → List Token → Parsed NoteCommand
by_act act ts =
    if bytes_eq act (codes "open") then opening_next ts
    else (if bytes_eq act (codes "comment") then comment_next ts
    else (if bytes_eq act (codes "close") then closing_next ts
    else (if bytes_eq act (codes "reopen") then reopening_next ts
    else None)))

unfoldable pub command_next : List Token → Parsed NoteCommand
command_next ts =
    begin_next ts >>= λ _ ts.
    member_next (codes "act") as_str ts >>= λ act ts.
    by_act act ts >>= λ command ts.
    end_next ts >>= λ _ ts.
    Some (command, ts)

-- ---- an entry

unfoldable pub user_next : List Token → Parsed Owner
user_next ts =
    begin_next ts >>= λ _ ts.
    member_next (codes "id") natural_of ts >>= λ id ts.
    member_next (codes "name") as_str ts >>= λ name ts.
    end_next ts >>= λ _ ts.
    Some (record { id = id; name = name }, ts)

-- a user, and the end of the entry
abbrev pub known_next : List Token → Parsed (Option Owner)
known_next ts = user_next ts >>= λ user ts. end_next ts >>= λ _ ts. Some (Some user, ts)

-- the end of the entry, with a user before it or none
unfoldable pub caller_next : List Token → Parsed (Option Owner)
caller_next (Token.end_object ∷ ts) = Some (None, ts)
caller_next (Token.key k ∷ ts) = if bytes_eq k (codes "user") then known_next ts else None
caller_next ts = None

unfoldable pub entry_next : List Token → Parsed NoteEntry
entry_next ts =
    begin_next ts >>= λ _ ts.
    member_next (codes "at") natural_of ts >>= λ stamp ts.
    member_next (codes "call") natural_of ts >>= λ call ts.
    key_next (codes "command") ts >>= λ _ ts.
    command_next ts >>= λ command ts.
    session_next ts >>= λ session ts.
    caller_next ts >>= λ caller ts.
    Some (record { session = session; call = call; caller = caller; stamp = stamp; command = command }, ts)
