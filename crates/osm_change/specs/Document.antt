-- The operations of a change, as a client gives them.
use Rattle.std.specs.Prelude.{List, [], map, Some, None, ℤ}
use Rattle.osm_element.specs.declared.contents.Content.{Content}
use Rattle.osm_element.specs.declared.contents.Content.TheVariants as content
use Rattle.osm_element.specs.declared.contents.RawContent.{RawContent}
use Rattle.osm_element.specs.declared.contents.RawContent.TheVariants as raw
use Rattle.osm_element.specs.declared.contents.Member.{Member}
use Rattle.osm_change.specs.Change.{kind_of}
use Rattle.osm_change.specs.Said.{said}
use Rattle.osm_change.specs.declared.raw.Action.TheVariants as action
use Rattle.osm_change.specs.declared.raw.RawOp.{RawOp}
use Rattle.osm_change.specs.declared.operations.Name.{Name}
use Rattle.osm_change.specs.declared.operations.Op.{Op}
use Rattle.osm_change.specs.declared.operations.Op.TheVariants.{Create, Modify, Delete}

abbrev pub member_said : List Op → Member Name → Member ℤ
member_said ops m = record { kind = m.kind; name = said ops m.name; role = m.role }

-- references by id and by placeholder
abbrev pub content_said : List Op → Content Name → RawContent
content_said ops (content.Node at) = raw.Node at.lat7 at.lon7
content_said ops (content.Way nodes) = raw.Way (map (said ops) nodes)
content_said ops (content.Relation members) = raw.Relation (map (member_said ops) members)

-- an operation among others. None names its changeset
abbrev pub op_said : List Op → Op → RawOp
op_said ops (Create placeholder content tags) = record {
  action = action.Create;
  kind = kind_of content;
  id = placeholder;
  version = None;
  changeset = None;
  content = Some (content_said ops content);
  tags = tags;
}
op_said ops (Modify name version content tags) = record {
  action = action.Modify;
  kind = kind_of content;
  id = said ops name;
  version = Some version;
  changeset = None;
  content = Some (content_said ops content);
  tags = tags;
}
op_said ops (Delete kind name version if_unused) = record {
  action = action.Delete if_unused;
  kind = kind;
  id = said ops name;
  version = Some version;
  changeset = None;
  content = None;
  tags = [];
}

abbrev pub document_of : List Op → List RawOp
document_of ops = map (op_said ops) ops
