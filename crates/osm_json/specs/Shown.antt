-- Values and objects of a body, as data: its text is the data's compact text (RFC 8259).
use Rattle.std.specs.Prelude.{ℕ, ℤ, List, [], ◌∷◌, map, Option, Some, None, option_map, codes}
use Rattle.serde_json.specs.Data.{Data, number, string, array, object, unsigned, Members, no_members, member}
use Rattle.serde_json.specs.Find.{of_integer}
use Rattle.serde_json.specs.View.{items_of}
use Rattle.osm_base.specs.declared.keys.Kind.{Kind}
use Rattle.osm_base.specs.declared.keys.Kind.TheVariants as kinds
use Rattle.osm_change.specs.declared.refusals.Said.{Said}
use Rattle.osm_change.specs.declared.refusals.Said.TheVariants as said
use Rattle.osm_json.specs.Moment.{stamp_text}

-- ---- objects and arrays

-- a member, or none
abbrev pub Field : Type 0
Field = Option (List ℕ × Data)

abbrev pub field : List ℕ → Data → Field
field name d = Some (name, d)

-- a member that is there where its value is
abbrev pub field_if : {A : Type 0} → List ℕ → (A → Data) → Option A → Field
field_if name shown value = option_map (λ x. (name, shown x)) value

abbrev pub members_of : List Field → Members
members_of [] = no_members
members_of (None ∷ more) = members_of more
members_of (Some m ∷ more) = member m.0 m.1 (members_of more)

-- the object of these members
unfoldable pub record_of : List Field → Data
record_of fields = object (members_of fields)

-- the array of a list, each item shown
unfoldable pub list_of : {A : Type 0} → (A → Data) → List A → Data
list_of shown xs = array (items_of (map shown xs))

-- ---- values

abbrev pub natural : ℕ → Data
natural n = number (unsigned n)

abbrev pub integer : ℤ → Data
integer z = number (of_integer z)

abbrev pub kind_name : Kind → List ℕ
kind_name kinds.Node = codes "node"
kind_name kinds.Way = codes "way"
kind_name kinds.Relation = codes "relation"

abbrev pub kind : Kind → Data
kind k = string (kind_name k)

-- an element as its upload named it
abbrev pub named : Said → Data
named (said.Id n) = natural n
named (said.Placeholder z) = integer z

-- seconds since 1970
abbrev pub moment : ℕ → Data
moment seconds = string (stamp_text seconds)

-- ---- documents

-- the version of the interface (OpenStreetMap wiki, "API v0.6")
abbrev pub version_field : Field
version_field = field (codes "version") (string (codes "0.6"))

-- a document of one part
unfoldable pub document : List ℕ → Data → Data
document name part = record_of (field name part ∷ version_field ∷ [])
