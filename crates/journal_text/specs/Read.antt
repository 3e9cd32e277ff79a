-- What the tokens of a line are read as, token by token: members in their order, and no other ones.
use Rattle.std.specs.Prelude.{ℕ, ◌==◌, List, [], ◌∷◌, length, codes, if◌then◌else◌, Option, Some, None, Result, Ok, Err}
use Rattle.std.specs.Str.{bytes_eq}
use Rattle.json.specs.Token.{Token}
use Rattle.serde_json.specs.Find.{as_bool, as_str}
use Rattle.osm_base.specs.declared.people.User.{User}
use Rattle.osm_change.specs.Build.{change_of}
use Rattle.osm_change.specs.declared.causes.ShapeFault.{ShapeFault}
use Rattle.osm_change.specs.declared.operations.Op.{Op}
use Rattle.osm_json.specs.Again.{natural_of, next_as, ops_of}
use Rattle.osm_json.specs.Reading.{kind_of, tags_of}
use Rattle.osm_model.specs.declared.commands.Command.{Command}
use Rattle.osm_model.specs.declared.commands.Command.TheVariants.{CreateChangeset, Retag, CloseChangeset, Upload, Single, MakeRedaction, Redact, Unredact}
use Rattle.osm_model.specs.declared.commands.Entry.{Entry}
use Rattle.json_line.specs.Read.{Parsed, ◌>>=◌, begin_next, end_next, key_next, member_next, session_next}

-- the name of the member that comes next
abbrev pub name_next : List Token → Parsed (List ℕ)
name_next (Token.key k ∷ ts) = Some (k, ts)
name_next ts = None

-- a number, and behind it the name of the next member
abbrev pub number_next : List ℕ → List Token → Parsed (Option ℕ)
number_next behind ts = next_as natural_of ts >>= λ n ts. key_next behind ts >>= λ _ ts. Some (Some n, ts)

abbrev pub optional_of : List ℕ → List ℕ → List ℕ → List Token → Parsed (Option ℕ)
optional_of name behind found ts =
    if bytes_eq found name then number_next behind ts
    else (if bytes_eq found behind then Some (None, ts)
    else None)

-- the number of a member that may be left out, and the name of the member behind it
unfoldable pub optional_next : List ℕ → List ℕ → List Token → Parsed (Option ℕ)
optional_next name behind ts = name_next ts >>= λ found ts. optional_of name behind found ts

unfoldable pub user_next : List Token → Parsed User
user_next ts =
    begin_next ts >>= λ _ ts.
    member_next (codes "id") natural_of ts >>= λ id ts.
    optional_next (codes "limit") (codes "moderator") ts >>= λ limit ts.
    next_as as_bool ts >>= λ moderator ts.
    member_next (codes "name") as_str ts >>= λ name ts.
    end_next ts >>= λ _ ts.
    Some (record { id = id; name = name; moderator = moderator; limit = limit }, ts)

-- ---- changes

abbrev pub built : Result (List Op) ShapeFault → List Token → Parsed (List Op)
built (Ok ops) ts = Some (ops, ts)
built (Err fault) ts = None

-- the blocks, and the change that they are to a changeset
unfoldable pub change_next : ℕ → List Token → Parsed (List Op)
change_next id ts = member_next (codes "osmChange") ops_of ts >>= λ raw ts. built (change_of id raw) ts

abbrev pub one_of : List Op → List Token → Parsed (List Op)
one_of ops ts = if length ops == 1 then Some (ops, ts) else None

-- ---- the members of a command behind its act

unfoldable pub create_next : List Token → Parsed Command
create_next ts =
    optional_next (codes "large_from") (codes "tags") ts >>= λ large_from ts.
    next_as tags_of ts >>= λ tags ts.
    Some (CreateChangeset tags large_from, ts)

unfoldable pub retag_next : List Token → Parsed Command
retag_next ts =
    member_next (codes "changeset") natural_of ts >>= λ id ts.
    member_next (codes "tags") tags_of ts >>= λ tags ts.
    Some (Retag id tags, ts)

unfoldable pub close_next : List Token → Parsed Command
close_next ts = member_next (codes "changeset") natural_of ts >>= λ id ts. Some (CloseChangeset id, ts)

unfoldable pub upload_next : List Token → Parsed Command
upload_next ts =
    member_next (codes "changeset") natural_of ts >>= λ id ts.
    change_next id ts >>= λ ops ts.
    Some (Upload id ops, ts)

unfoldable pub single_next : List Token → Parsed Command
single_next ts =
    member_next (codes "changeset") natural_of ts >>= λ id ts.
    change_next id ts >>= λ ops ts.
    one_of ops ts >>= λ ops ts.
    Some (Single id ops, ts)

unfoldable pub title_next : List Token → Parsed Command
title_next ts = member_next (codes "title") as_str ts >>= λ title ts. Some (MakeRedaction title, ts)

unfoldable pub redact_next : List Token → Parsed Command
redact_next ts =
    member_next (codes "id") natural_of ts >>= λ id ts.
    member_next (codes "redaction") natural_of ts >>= λ redaction ts.
    member_next (codes "type") kind_of ts >>= λ kind ts.
    member_next (codes "version") natural_of ts >>= λ version ts.
    Some (Redact (record { kind = kind; id = id }) version redaction, ts)

unfoldable pub unredact_next : List Token → Parsed Command
unredact_next ts =
    member_next (codes "id") natural_of ts >>= λ id ts.
    member_next (codes "type") kind_of ts >>= λ kind ts.
    member_next (codes "version") natural_of ts >>= λ version ts.
    Some (Unredact (record { kind = kind; id = id }) version, ts)

unfoldable pub by_act : List ℕ → List Token → Parsed Command
by_act act ts =
    if bytes_eq act (codes "create_changeset") then create_next ts
    else (if bytes_eq act (codes "retag") then retag_next ts
    else (if bytes_eq act (codes "close") then close_next ts
    else (if bytes_eq act (codes "upload") then upload_next ts
    else (if bytes_eq act (codes "single") then single_next ts
    else (if bytes_eq act (codes "make_redaction") then title_next ts
    else (if bytes_eq act (codes "redact") then redact_next ts
    else (if bytes_eq act (codes "unredact") then unredact_next ts
    else None)))))))

unfoldable pub command_next : List Token → Parsed Command
command_next ts =
    begin_next ts >>= λ _ ts.
    member_next (codes "act") as_str ts >>= λ act ts.
    by_act act ts >>= λ command ts.
    end_next ts >>= λ _ ts.
    Some (command, ts)

-- ---- an entry

unfoldable pub entry_next : List Token → Parsed Entry
entry_next ts =
    begin_next ts >>= λ _ ts.
    member_next (codes "at") natural_of ts >>= λ stamp ts.
    member_next (codes "call") natural_of ts >>= λ call ts.
    key_next (codes "command") ts >>= λ _ ts.
    command_next ts >>= λ command ts.
    session_next ts >>= λ session ts.
    key_next (codes "user") ts >>= λ _ ts.
    user_next ts >>= λ user ts.
    end_next ts >>= λ _ ts.
    Some (record { session = session; call = call; user = user; stamp = stamp; command = command }, ts)
