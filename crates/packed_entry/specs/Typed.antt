-- What the types of an entry say of it.
use Rattle.std.specs.Prelude.{◌≡◌, ℕ, ◌^◌, ◌<◌, List, length, Option, Some, None, All, ⊤}
use Rattle.std.specs.Str.{IsUtf8}
use Rattle.osm_base.specs.Place.{IsPosition}
use Rattle.osm_base.specs.declared.people.User.{User}
use Rattle.osm_element.specs.Tags.{Tag, KeysRise, byte_count}
use Rattle.osm_element.specs.declared.contents.Content.{Content}
use Rattle.osm_element.specs.declared.contents.Content.TheVariants.{Node, Way, Relation}
use Rattle.osm_element.specs.declared.contents.Member.{Member}
use Rattle.osm_change.specs.Change.{IsPlaceholder, IsWellFormed}
use Rattle.osm_change.specs.Referents.{Fits}
use Rattle.osm_change.specs.declared.operations.Name.{Name}
use Rattle.osm_change.specs.declared.operations.Op.{Op}
use Rattle.osm_change.specs.declared.operations.Op.TheVariants.{Create, Modify, Delete}
use Rattle.osm_model.specs.declared.commands.Command.{Command}
use Rattle.osm_model.specs.declared.commands.Command.TheVariants.{CreateChangeset, Retag, CloseChangeset, Upload, Single, MakeRedaction, Redact, Unredact}
use Rattle.osm_model.specs.declared.commands.Entry.{Entry}

abbrev pub Fits64 : ℕ → Type 0
Fits64 n = n < 2 ^ 64

abbrev pub FitsIfSome : Option ℕ → Type 0
FitsIfSome None = ⊤
FitsIfSome (Some n) = Fits64 n

pub record IsText (text : List ℕ) : Type 0 where
  pub utf8 : IsUtf8 text
  pub fits : Fits64 (length text)

pub record IsTag (tag : Tag) : Type 0 where
  pub key : IsText tag.0
  pub value : IsText tag.1

pub record AreTags (tags : List Tag) : Type 0 where
  pub rise : KeysRise tags
  pub fit : Fits64 (length tags)
  pub room : Fits64 (byte_count tags)
  pub each : All IsTag tags

pub record IsMember (m : Member Name) : Type 0 where
  pub name : Fits m.name
  pub role : IsText m.role

pub record AreAll {X : Type 0} (P : X → Type 0) (xs : List X) : Type 0 where
  pub fit : Fits64 (length xs)
  pub each : All P xs

abbrev pub IsContent : Content Name → Type 0
IsContent (Node at) = IsPosition at.lat7 at.lon7
IsContent (Way nodes) = AreAll Fits nodes
IsContent (Relation members) = AreAll IsMember members

abbrev pub IsOp : Op → Type 0
IsOp (Create placeholder content tags) = IsPlaceholder placeholder × IsContent content × AreTags tags
IsOp (Modify name version content tags) = Fits name × Fits64 version × IsContent content × AreTags tags
IsOp (Delete kind name version if_unused) = Fits name × Fits64 version

pub record IsChange (ops : List Op) : Type 0 where
  pub well_formed : IsWellFormed ops
  pub all : AreAll IsOp ops

abbrev pub IsCommand : Command → Type 0
IsCommand (CreateChangeset tags large_from) = FitsIfSome large_from × AreTags tags
IsCommand (Retag id tags) = Fits64 id × AreTags tags
IsCommand (CloseChangeset id) = Fits64 id
IsCommand (Upload id ops) = Fits64 id × IsChange ops
IsCommand (Single id ops) = Fits64 id × IsChange ops × (length ops ≡ 1)
IsCommand (MakeRedaction title) = IsText title
IsCommand (Redact key version redaction) = Fits64 key.id × Fits64 version × Fits64 redaction
IsCommand (Unredact key version) = Fits64 key.id × Fits64 version

pub record IsUser (u : User) : Type 0 where
  pub id : Fits64 u.id
  pub name : IsText u.name
  pub limit : FitsIfSome u.limit

pub record IsEntry (e : Entry) : Type 0 where
  pub session : e.session < 2 ^ 32
  pub call : Fits64 e.call
  pub stamp : Fits64 e.stamp
  pub user : IsUser e.user
  pub command : IsCommand e.command
