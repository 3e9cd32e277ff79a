-- The blocks of an upload, as data: neighbouring operations of one action stand in one block (OpenStreetMap wiki, "OsmChange").
use Rattle.std.specs.Prelude.{ℕ, ℤ, Bool, true, false, if◌then◌else◌, List, [], ◌∷◌, ◌++◌, map, Option, Some, None, codes, ⊤, All}
use Rattle.serde_json.specs.Data.{Data, boolean, string, array, no_items, item}
use Rattle.osm_element.specs.Tags.{Tag, KeysRise}
use Rattle.osm_element.specs.declared.contents.Member.{Member as Reference}
use Rattle.osm_element.specs.declared.contents.RawContent.{RawContent}
use Rattle.osm_element.specs.declared.contents.RawContent.TheVariants as contents
use Rattle.osm_change.specs.Change.{IsWellFormed}
use Rattle.osm_change.specs.Document.{document_of}
use Rattle.osm_change.specs.declared.raw.Action.{Action}
use Rattle.osm_change.specs.declared.raw.Action.TheVariants.{Create, Modify, Delete}
use Rattle.osm_change.specs.declared.raw.RawOp.{RawOp}
use Rattle.osm_change.specs.declared.operations.Op.{Op}
use Rattle.osm_change.specs.declared.operations.Op.TheVariants as ops
use Rattle.osm_json.specs.Reading.{Block, Step}
use Rattle.osm_json.specs.Rows.{tags as tags_data}
use Rattle.osm_json.specs.Shown.{Field, field, field_if, record_of, list_of, natural, integer, kind}

-- ---- an operation

-- an empty text is left out
abbrev pub text_if_some : List ℕ → List ℕ → Field
text_if_some name [] = None
text_if_some name (c ∷ text) = field name (string (c ∷ text))

unfoldable pub given_member : Reference ℤ → Data
given_member m = record_of (
    field (codes "ref") (integer m.name)
    ∷ text_if_some (codes "role") m.role
    ∷ field (codes "type") (kind m.kind) ∷ [])

abbrev pub content_given : RawContent → List Field
content_given (contents.Node lat7 lon7) = field (codes "lat7") (integer lat7) ∷ field (codes "lon7") (integer lon7) ∷ []
content_given (contents.Way nodes) = field (codes "nodes") (list_of integer nodes) ∷ []
content_given (contents.Relation members) = field (codes "members") (list_of given_member members) ∷ []

-- a deletion has no content
abbrev pub content_if_some : Option RawContent → List Field
content_if_some None = []
content_if_some (Some content) = content_given content

-- no tags are left out
abbrev pub tags_if_some : List Tag → Field
tags_if_some [] = None
tags_if_some (tag ∷ tags) = field (codes "tags") (tags_data (tag ∷ tags))

-- the members of an operation that names no changeset
abbrev pub op_fields : RawOp → List Field
op_fields r =
    field (codes "id") (integer r.id)
    ∷ (content_if_some r.content
    ++ (tags_if_some r.tags
    ∷ field (codes "type") (kind r.kind)
    ∷ field_if (codes "version") natural r.version ∷ []))

unfoldable pub given_op : RawOp → Data
given_op r = record_of (op_fields r)

-- ---- blocks

abbrev pub action_eq : Action → Action → Bool
action_eq Create Create = true
action_eq Modify Modify = true
action_eq (Delete true) (Delete true) = true
action_eq (Delete false) (Delete false) = true
action_eq a b = false

abbrev pub block_with : Step → Block
block_with s = record { action = s.0; elements = item s.1 no_items }

-- an operation before others, in the first block where that has its action
abbrev pub before_blocks : Step → List Block → List Block
before_blocks s [] = block_with s ∷ []
before_blocks s (b ∷ bs) = if action_eq s.0 b.action then (record { action = b.action; elements = item s.1 b.elements }) ∷ bs else block_with s ∷ b ∷ bs

abbrev pub in_blocks : List Step → List Block
in_blocks [] = []
in_blocks (s ∷ more) = before_blocks s (in_blocks more)

abbrev pub name_of_action : Action → List ℕ
name_of_action Create = codes "create"
name_of_action Modify = codes "modify"
name_of_action (Delete if_unused) = codes "delete"

abbrev pub if_unused_field : Action → Field
if_unused_field Create = None
if_unused_field Modify = None
if_unused_field (Delete false) = None
if_unused_field (Delete true) = field (codes "if-unused") (boolean true)

unfoldable pub given_block : Block → Data
given_block b = record_of (field (name_of_action b.action) (array b.elements) ∷ if_unused_field b.action ∷ [])

abbrev pub step_of : RawOp → Step
step_of r = (r.action, given_op r)

-- the list of blocks of some operations
unfoldable pub given_ops : List RawOp → Data
given_ops rs = list_of given_block (in_blocks (map step_of rs))

-- ---- what the type of a change says of its tags

abbrev pub HasRisingTags : Op → Type 0
HasRisingTags (ops.Create placeholder content tags) = KeysRise tags
HasRisingTags (ops.Modify name version content tags) = KeysRise tags
HasRisingTags (ops.Delete kind name version if_unused) = ⊤

-- the operations of a change
pub record IsChange (ops : List Op) : Type 0 where
  pub well_formed : IsWellFormed ops
  pub rising : All HasRisingTags ops

-- the blocks of a change
abbrev pub change : List Op → Data
change ops = given_ops (document_of ops)
