-- The line of an entry: compact JSON, the members of each object in the byte order of their names.
use Rattle.std.specs.Prelude.{◌≡◌, ℕ, ◌^◌, ◌<◌, List, [], ◌∷◌, length, codes, Option, Some, None, ⊤}
use Rattle.std.specs.Str.{IsUtf8}
use Rattle.serde_json.specs.Data.{Data, boolean, string}
use Rattle.serde_json.specs.Written.{compact_text}
use Rattle.osm_base.specs.declared.people.User.{User}
use Rattle.osm_element.specs.Tags.{KeysRise}
use Rattle.osm_json.specs.Rows.{tags as tags_data}
use Rattle.osm_json.specs.Shown.{Field, field, field_if, record_of, natural, kind}
use Rattle.osm_json.specs.Uploads.{IsChange, change}
use Rattle.osm_model.specs.declared.commands.Command.{Command}
use Rattle.osm_model.specs.declared.commands.Command.TheVariants.{CreateChangeset, Retag, CloseChangeset, Upload, Single, MakeRedaction, Redact, Unredact}
use Rattle.osm_model.specs.declared.commands.Entry.{Entry}

abbrev pub act : List ℕ → Field
act name = field (codes "act") (string name)

abbrev pub changeset : ℕ → Field
changeset id = field (codes "changeset") (natural id)

abbrev pub command_fields : Command → List Field
command_fields (CreateChangeset tags large_from) = act (codes "create_changeset") ∷ field_if (codes "large_from") natural large_from ∷ field (codes "tags") (tags_data tags) ∷ []
command_fields (Retag id tags) = act (codes "retag") ∷ changeset id ∷ field (codes "tags") (tags_data tags) ∷ []
command_fields (CloseChangeset id) = act (codes "close") ∷ changeset id ∷ []
command_fields (Upload id ops) = act (codes "upload") ∷ changeset id ∷ field (codes "osmChange") (change ops) ∷ []
command_fields (Single id ops) = act (codes "single") ∷ changeset id ∷ field (codes "osmChange") (change ops) ∷ []
command_fields (MakeRedaction title) = act (codes "make_redaction") ∷ field (codes "title") (string title) ∷ []
command_fields (Redact key version redaction) =
    act (codes "redact")
    ∷ field (codes "id") (natural key.id)
    ∷ field (codes "redaction") (natural redaction)
    ∷ field (codes "type") (kind key.kind)
    ∷ field (codes "version") (natural version) ∷ []
command_fields (Unredact key version) =
    act (codes "unredact")
    ∷ field (codes "id") (natural key.id)
    ∷ field (codes "type") (kind key.kind)
    ∷ field (codes "version") (natural version) ∷ []

unfoldable pub command : Command → Data
command c = record_of (command_fields c)

abbrev pub user_fields : User → List Field
user_fields u =
    field (codes "id") (natural u.id)
    ∷ field_if (codes "limit") natural u.limit
    ∷ field (codes "moderator") (boolean u.moderator)
    ∷ field (codes "name") (string u.name) ∷ []

unfoldable pub user : User → Data
user u = record_of (user_fields u)

abbrev pub entry_fields : Entry → List Field
entry_fields e =
    field (codes "at") (natural e.stamp)
    ∷ field (codes "call") (natural e.call)
    ∷ field (codes "command") (command e.command)
    ∷ field (codes "session") (natural e.session)
    ∷ field (codes "user") (user e.user) ∷ []

unfoldable pub line_data : Entry → Data
line_data e = record_of (entry_fields e)

-- without the byte 10 that ends it
abbrev pub line : Entry → List ℕ
line e = compact_text (line_data e)

-- ---- what the types of an entry say of it

abbrev pub Fits64 : ℕ → Type 0
Fits64 n = n < 2 ^ 64

abbrev pub FitsIfSome : Option ℕ → Type 0
FitsIfSome None = ⊤
FitsIfSome (Some n) = Fits64 n

abbrev pub IsCommand : Command → Type 0
IsCommand (CreateChangeset tags large_from) = KeysRise tags × FitsIfSome large_from
IsCommand (Retag id tags) = Fits64 id × KeysRise tags
IsCommand (CloseChangeset id) = Fits64 id
IsCommand (Upload id ops) = Fits64 id × IsChange ops
IsCommand (Single id ops) = Fits64 id × IsChange ops × (length ops ≡ 1)
IsCommand (MakeRedaction title) = ⊤
IsCommand (Redact key version redaction) = Fits64 key.id × Fits64 version × Fits64 redaction
IsCommand (Unredact key version) = Fits64 key.id × Fits64 version

-- its numbers have their widths, its tags rise, its changes are well formed, and its texts are UTF-8
pub record IsEntry (e : Entry) : Type 0 where
  pub session : e.session < 2 ^ 32
  pub call : Fits64 e.call
  pub stamp : Fits64 e.stamp
  pub user : Fits64 e.user.id
  pub limit : FitsIfSome e.user.limit
  pub command : IsCommand e.command
  pub texts : IsUtf8 (line e)
