-- One version of an element, and how it is held.
use Rattle.std.specs.Prelude.{ℕ, List, [], Option, None, Some}
use Rattle.osm_element.specs.Tags.{Tag}
use Rattle.osm_element.specs.declared.contents.Content.{Content}
use Rattle.osm_element.specs.declared.contents.Content.TheVariants as content
use Rattle.osm_element.specs.declared.forms.Form.{Form}
use Rattle.osm_element.specs.declared.forms.Form.TheVariants.{Node, TaggedNode, Way, Relation, Deletion, TaggedDeletion}
use Rattle.osm_element.specs.declared.noted.Noted.{Noted}

-- it is visible where it has a content, and hidden by its redaction where it has one
pub record Version : Type 0 where
  pub content : Option (Content ℕ)
  pub tags : List Tag
  pub changeset : ℕ
  pub stamp : ℕ
  pub redaction : Option ℕ

-- ---- what is held of it

abbrev pub content_in : Form → Option (Content ℕ)
content_in (Node noted at) = Some (content.Node at)
content_in (TaggedNode noted table) = Some (content.Node table.value.at)
content_in (Way noted nodes) = Some (content.Way nodes.value.items)
content_in (Relation noted members) = Some (content.Relation members.value.items)
content_in (Deletion noted) = None
content_in (TaggedDeletion noted table) = None

abbrev pub tags_of : Form → List Tag
tags_of (Node noted at) = []
tags_of (TaggedNode noted table) = table.value.table
tags_of (Way noted nodes) = nodes.value.tags
tags_of (Relation noted members) = members.value.tags
tags_of (Deletion noted) = []
tags_of (TaggedDeletion noted table) = table.value.table

abbrev pub noted_in : Form → Noted
noted_in (Node noted at) = noted
noted_in (TaggedNode noted table) = noted
noted_in (Way noted nodes) = noted
noted_in (Relation noted members) = noted
noted_in (Deletion noted) = noted
noted_in (TaggedDeletion noted table) = noted
