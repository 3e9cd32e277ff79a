-- What was found of an object, member by member, and what it makes.
use Rattle.std.specs.Prelude.{◌≡◌, ℕ, ℤ, negsuc, Bool, true, false, List, [], codes, Option, Some, None, option_map, unwrap_or, Result, Ok, Err}
use Rattle.std.specs.Borrow.{Bor}
use Rattle.serde_json.specs.Data.{Data, Members}
use Rattle.serde_json.specs.Find.{get_member, as_str}
use Rattle.std.specs.Ordering.{int_eq}
use Rattle.osm_base.specs.Key.{kind_eq}
use Rattle.osm_base.specs.declared.keys.Kind.{Kind}
use Rattle.osm_base.specs.declared.keys.Kind.TheVariants as kinds
use Rattle.osm_change.specs.declared.raw.Action.{Action}
use Rattle.osm_change.specs.declared.raw.Action.TheVariants.{Create, Modify, Delete}
use Rattle.osm_change.specs.declared.raw.RawOp.{RawOp}
use Rattle.osm_element.specs.declared.contents.Member.{Member as Reference}
use Rattle.osm_element.specs.declared.contents.RawContent.{RawContent}
use Rattle.osm_element.specs.declared.contents.RawContent.TheVariants as contents
use Rattle.osm_json.specs.Reading.{◌>>=◌, only_if, repeated, is_title, integer_of, id_of, count_of, kind_of, tags_of, list_of, reference_of}
use Rattle.osm_json.specs.declared.fault.ReadFault.{ReadFault}
use Rattle.osm_json.specs.declared.fault.ReadFault.TheVariants.{NotJson, Memory}
use Rattle.osm_json.specs.declared.operation.Fields.{Fields}
use Rattle.osm_json.specs.declared.lists.Parts.{Parts}
use Rattle.osm_json.specs.declared.names.Name.{Name}
use Rattle.osm_json.specs.declared.names.Name.TheVariants as names
use Rattle.osm_json.specs.declared.names.Part.{Part}
use Rattle.osm_json.specs.declared.names.Part.TheVariants as parts

-- what was made is the definition's, unless memory ran out
abbrev pub Makes : {A X : Type 0} → (X → A) → Result X ReadFault → A → Type 0
Makes view (Ok x) defined = view x ≡ defined
Makes view (Err Memory) defined = Unit {0}
Makes view (Err NotJson) defined = ⊥

-- a member: not there, there and malformed, or read

-- it must be there
abbrev pub given : {A : Type 0} → Option (Option A) → Option A
given None = None
given (Some read) = read

-- it may be missing
abbrev pub allowed : {A : Type 0} → Option (Option A) → Option (Option A)
allowed None = Some None
allowed (Some read) = option_map Some read

abbrev pub text_in : Option (Bor (List ℕ)) → Option (List ℕ)
text_in text = option_map (λ t. t.now) text

-- ---- a relation's member

pub record PartsFound : Type 0 where
  pub kind : Option (Option Kind)
  pub name : Option (Option ℤ)
  pub role : Option (Option (List ℕ))

abbrev pub parts_view : Parts → PartsFound
parts_view p = record { kind = p.kind; name = p.name; role = option_map text_in p.role }

abbrev pub put_part : Part → Data → PartsFound → PartsFound
put_part parts.Type d s = record { kind = Some (kind_of d); name = s.name; role = s.role }
put_part parts.Ref d s = record { kind = s.kind; name = Some (id_of d); role = s.role }
put_part parts.Role d s = record { kind = s.kind; name = s.name; role = Some (as_str d) }
put_part parts.Other d s = s

abbrev pub parts_of : Members → PartsFound
parts_of ms = record {
  kind = option_map kind_of (get_member (codes "type") ms);
  name = option_map id_of (get_member (codes "ref") ms);
  role = option_map as_str (get_member (codes "role") ms);
}

abbrev pub reference_in : PartsFound → Option (Reference ℤ)
reference_in s = given s.kind >>= λ kind. given s.name >>= λ name. allowed s.role >>= λ role. Some (record { kind = kind; name = name; role = unwrap_or role [] })

-- ---- an operation

abbrev pub put_field : Name → Data → Fields → Fields
put_field names.Type d f = record f { kind = Some (kind_of d) }
put_field names.Id d f = record f { id = Some (id_of d) }
put_field names.Version d f = record f { version = Some (count_of d) }
put_field names.Changeset d f = record f { changeset = Some (count_of d) }
put_field names.Lat7 d f = record f { lat7 = Some (integer_of d) }
put_field names.Lon7 d f = record f { lon7 = Some (integer_of d) }
put_field names.Nodes d f = record f { nodes = Some (list_of id_of d) }
put_field names.Members d f = record f { members = Some (list_of reference_of d) }
put_field names.Tags d f = record f { tags = Some (tags_of d) }
put_field names.Other d f = f

abbrev pub fields_of : Members → Fields
fields_of ms = record {
  kind = option_map kind_of (get_member (codes "type") ms);
  id = option_map id_of (get_member (codes "id") ms);
  version = option_map count_of (get_member (codes "version") ms);
  changeset = option_map count_of (get_member (codes "changeset") ms);
  lat7 = option_map integer_of (get_member (codes "lat7") ms);
  lon7 = option_map integer_of (get_member (codes "lon7") ms);
  nodes = option_map (list_of id_of) (get_member (codes "nodes") ms);
  members = option_map (list_of reference_of) (get_member (codes "members") ms);
  tags = option_map tags_of (get_member (codes "tags") ms);
}

abbrev pub content_of_parts : Kind → Option (Option ℤ) → Option (Option ℤ) → Option (Option (List ℤ)) → Option (Option (List (Reference ℤ))) → Option RawContent
content_of_parts kinds.Node lat lon nodes members = given lat >>= λ lat7. given lon >>= λ lon7. Some (contents.Node lat7 lon7)
content_of_parts kinds.Way lat lon nodes members = given nodes >>= λ ids. Some (contents.Way ids)
content_of_parts kinds.Relation lat lon nodes members = given members >>= λ references. Some (contents.Relation references)

abbrev pub content_in : Kind → Fields → Option RawContent
content_in kind f = content_of_parts kind f.lat7 f.lon7 f.nodes f.members

abbrev pub version_in : Action → Option (Option ℕ) → Option (Option ℕ)
version_in Create found = Some None
version_in Modify found = allowed found
version_in (Delete if_unused) found = allowed found

abbrev pub tags_in : Action → Option (Option (List (List ℕ × List ℕ))) → Option (List (List ℕ × List ℕ))
tags_in Create found = option_map (λ tags. unwrap_or tags []) (allowed found)
tags_in Modify found = option_map (λ tags. unwrap_or tags []) (allowed found)
tags_in (Delete if_unused) found = Some []

abbrev pub given_parts : Action → Kind → Option (Option ℤ) → Option (Option ℤ) → Option (Option (List ℤ)) → Option (Option (List (Reference ℤ))) → Option (Option RawContent)
given_parts Create kind lat lon nodes members = option_map Some (content_of_parts kind lat lon nodes members)
given_parts Modify kind lat lon nodes members = option_map Some (content_of_parts kind lat lon nodes members)
given_parts (Delete if_unused) kind lat lon nodes members = Some None

abbrev pub given_content : Action → Kind → Fields → Option (Option RawContent)
given_content action kind f = given_parts action kind f.lat7 f.lon7 f.nodes f.members

unfoldable pub operation_in : Action → Fields → Option RawOp
operation_in action f = do
  kind ← given f.kind
  id ← given f.id
  version ← version_in action f.version
  changeset ← allowed f.changeset
  tags ← tags_in action f.tags
  content ← given_content action kind f
  Some (record { action = action; kind = kind; id = id; version = version; changeset = changeset; content = content; tags = tags })

-- ---- a changeset, and a single element

abbrev pub tags_wanted : Bool → Option (Option (List (List ℕ × List ℕ))) → Option (List (List ℕ × List ℕ))
tags_wanted true found = given found
tags_wanted false found = option_map (λ tags. unwrap_or tags []) (allowed found)

abbrev pub same_kind : Kind → Option (Option Kind) → Bool
same_kind kind None = true
same_kind kind (Some None) = false
same_kind kind (Some (Some said)) = kind_eq kind said

abbrev pub single_id_in : Action → ℤ → Option (Option ℤ) → Option ℤ
single_id_in Create id found = Some (negsuc 0)
single_id_in Modify id found = allowed found >>= repeated int_eq id
single_id_in (Delete if_unused) id found = allowed found >>= repeated int_eq id

unfoldable pub single_of_fields : Action → Kind → ℤ → Fields → Option (ℕ × RawOp)
single_of_fields action kind id f = do
  same ← only_if (same_kind kind f.kind) kind
  named ← single_id_in action id f.id
  version ← version_in action f.version
  changeset ← given f.changeset
  tags ← tags_in action f.tags
  content ← given_content action kind f
  Some (changeset, record { action = action; kind = kind; id = named; version = version; changeset = Some changeset; content = content; tags = tags })

-- ---- a redaction

abbrev pub title_in_members : Option (Option (List ℕ)) → Option (List ℕ)
title_in_members found = given found >>= λ text. only_if (is_title text) text
