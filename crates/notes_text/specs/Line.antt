-- The line of an entry: compact JSON, the members of each object in the byte order of their names.
use Rattle.std.specs.Prelude.{ℕ, ◌^◌, ◌<◌, List, [], ◌∷◌, codes, Option, Some, None, ⊤}
use Rattle.std.specs.Str.{IsUtf8}
use Rattle.serde_json.specs.Data.{Data, string}
use Rattle.serde_json.specs.Written.{compact_text}
use Rattle.osm_base.specs.Place.{IsPosition}
use Rattle.osm_base.specs.declared.people.Owner.{Owner}
use Rattle.osm_json.specs.Shown.{Field, field, field_if, record_of, natural, integer}
use Rattle.notes_core.specs.declared.commands.NoteCommand.{NoteCommand}
use Rattle.notes_core.specs.declared.commands.NoteCommand.TheVariants.{OpenNote, Comment, CloseNote, Reopen}
use Rattle.notes_core.specs.declared.commands.NoteEntry.{NoteEntry}

-- what is done to a note that has a number, and the text that is said
abbrev pub said_fields : List ℕ → ℕ → List ℕ → List Field
said_fields act id text = field (codes "act") (string act) ∷ field (codes "id") (natural id) ∷ field (codes "text") (string text) ∷ []

-- a position in units of 1e-7 degrees
abbrev pub command_fields : NoteCommand → List Field
command_fields (OpenNote at text) =
    field (codes "act") (string (codes "open"))
    ∷ field (codes "lat7") (integer at.lat7)
    ∷ field (codes "lon7") (integer at.lon7)
    ∷ field (codes "text") (string text) ∷ []
command_fields (Comment id text) = said_fields (codes "comment") id text
command_fields (CloseNote id text) = said_fields (codes "close") id text
command_fields (Reopen id text) = said_fields (codes "reopen") id text

unfoldable pub command : NoteCommand → Data
command c = record_of (command_fields c)

abbrev pub user_fields : Owner → List Field
user_fields o = field (codes "id") (natural o.id) ∷ field (codes "name") (string o.name) ∷ []

unfoldable pub user : Owner → Data
user o = record_of (user_fields o)

-- `user` is there where the caller is known
abbrev pub entry_fields : NoteEntry → List Field
entry_fields e =
    field (codes "at") (natural e.stamp)
    ∷ field (codes "call") (natural e.call)
    ∷ field (codes "command") (command e.command)
    ∷ field (codes "session") (natural e.session)
    ∷ field_if (codes "user") user e.caller ∷ []

unfoldable pub line_data : NoteEntry → Data
line_data e = record_of (entry_fields e)

-- without the byte 10 that ends it
abbrev pub line : NoteEntry → List ℕ
line e = compact_text (line_data e)

-- ---- what the types of an entry say of it

abbrev pub Fits64 : ℕ → Type 0
Fits64 n = n < 2 ^ 64

abbrev pub IsCommand : NoteCommand → Type 0
IsCommand (OpenNote at text) = IsPosition at.lat7 at.lon7
IsCommand (Comment id text) = Fits64 id
IsCommand (CloseNote id text) = Fits64 id
IsCommand (Reopen id text) = Fits64 id

abbrev pub IsCaller : Option Owner → Type 0
IsCaller None = ⊤
IsCaller (Some o) = Fits64 o.id

-- its numbers have their widths, a note is opened on the globe, and its texts are UTF-8
pub record IsEntry (e : NoteEntry) : Type 0 where
  pub session : e.session < 2 ^ 32
  pub call : Fits64 e.call
  pub stamp : Fits64 e.stamp
  pub caller : IsCaller e.caller
  pub command : IsCommand e.command
  pub texts : IsUtf8 (line e)
