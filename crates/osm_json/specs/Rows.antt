-- The rows of answers, as data. Members stand in the byte order of their names.
use Rattle.std.specs.Prelude.{ℕ, List, [], ◌∷◌, ◌++◌, map, Option, Some, None, is_some, is_none, ◌==◌, if◌then◌else◌, codes}
use Rattle.serde_json.specs.Data.{Data, boolean, string}
use Rattle.osm_base.specs.Place.{Area}
use Rattle.osm_base.specs.declared.people.Owner.{Owner}
use Rattle.osm_element.specs.Tags.{Tag}
use Rattle.osm_element.specs.declared.contents.Content.{Content}
use Rattle.osm_element.specs.declared.contents.Content.TheVariants as contents
use Rattle.osm_element.specs.declared.contents.Member.{Member as Reference}
use Rattle.osm_element.specs.Version.{Version}
use Rattle.osm_change.specs.declared.answers.DiffRow.{DiffRow}
use Rattle.osm_change.specs.declared.answers.ElementRow.{ElementRow}
use Rattle.osm_change.specs.declared.answers.ChangesetRow.{ChangesetRow}
use Rattle.osm_json.specs.Shown.{Field, field, field_if, record_of, list_of, natural, integer, kind, moment, version_field, document}

-- ---- diff results

unfoldable pub diff_row : DiffRow → Data
diff_row r = record_of (
    field_if (codes "new_id") natural r.new_id
    ∷ field_if (codes "new_version") natural r.new_version
    ∷ field (codes "old_id") (integer r.old_id)
    ∷ field (codes "type") (kind r.kind) ∷ [])

unfoldable pub diff : List DiffRow → Data
diff rows = document (codes "diffResult") (list_of diff_row rows)

-- ---- boxes and tags

-- the edges of a box
unfoldable pub box_fields : Area → List Field
box_fields b =
    field (codes "maxlat7") (integer b.top)
    ∷ field (codes "maxlon7") (integer b.right)
    ∷ field (codes "minlat7") (integer b.bottom)
    ∷ field (codes "minlon7") (integer b.left) ∷ []

abbrev pub tag_field : Tag → Field
tag_field tag = field tag.0 (string tag.1)

unfoldable pub tags : List Tag → Data
tags pairs = record_of (map tag_field pairs)

-- ---- elements

unfoldable pub reference : Reference ℕ → Data
reference m = record_of (
    field (codes "ref") (natural m.name)
    ∷ field (codes "role") (string m.role)
    ∷ field (codes "type") (kind m.kind) ∷ [])

unfoldable pub content_fields : Content ℕ → List Field
content_fields (contents.Node at) = field (codes "lat7") (integer at.lat7) ∷ field (codes "lon7") (integer at.lon7) ∷ []
content_fields (contents.Way nodes) = field (codes "nodes") (list_of natural nodes) ∷ []
content_fields (contents.Relation references) = field (codes "members") (list_of reference references) ∷ []

-- a version that is not visible has no content
abbrev pub visible_fields : Option (Content ℕ) → List Field
visible_fields None = []
visible_fields (Some content) = content_fields content

-- the tags of a version that is visible
unfoldable pub tags_fields : Version → List Field
tags_fields v = field_if (codes "tags") (λ _. tags v.tags) v.content ∷ []

unfoldable pub number_fields : ElementRow → List Field
number_fields r = field (codes "changeset") (natural r.version.changeset) ∷ field (codes "id") (natural r.key.id) ∷ []

unfoldable pub redaction_fields : Version → List Field
redaction_fields v = field_if (codes "redaction") natural v.redaction ∷ []

-- `uid` and `user` are the owner of the changeset
unfoldable pub origin_fields : ElementRow → List Field
origin_fields r =
    field (codes "type") (kind r.key.kind)
    ∷ field (codes "uid") (natural r.owner.id)
    ∷ field (codes "user") (string r.owner.name)
    ∷ field (codes "version") (natural r.number)
    ∷ field (codes "visible") (boolean (is_some r.version.content)) ∷ []

abbrev pub stamp_field : ℕ → Field
stamp_field stamp = field (codes "timestamp") (moment stamp)

unfoldable pub element : ElementRow → Data
element r = record_of (
    number_fields r
    ++ (visible_fields r.version.content
    ++ (redaction_fields r.version
    ++ (tags_fields r.version
    ++ (stamp_field r.version.stamp ∷ origin_fields r)))))

unfoldable pub bounds : Area → Data
bounds b = record_of (box_fields b)

-- elements, for the map call with the box that was asked for
unfoldable pub elements : Option Area → List ElementRow → Data
elements within rows = record_of (
    field_if (codes "bounds") bounds within
    ∷ field (codes "elements") (list_of element rows)
    ∷ version_field ∷ [])

-- ---- what a changeset made (OpenStreetMap wiki, "OsmChange")

-- version 1 was created
abbrev pub action_name : ElementRow → List ℕ
action_name r =
    if r.number == 1 then codes "create" else (if is_none r.version.content then codes "delete" else codes "modify")

-- one block for each version
unfoldable pub block : ElementRow → Data
block r = record_of (field (action_name r) (list_of element (r ∷ [])) ∷ [])

unfoldable pub download : List ElementRow → Data
download rows = document (codes "osmChange") (list_of block rows)

-- ---- changesets

unfoldable pub life_fields : ChangesetRow → List Field
life_fields r =
    field (codes "changes_count") (natural r.count)
    ∷ field_if (codes "closed_at") moment r.closes
    ∷ field (codes "created_at") (moment r.created)
    ∷ field (codes "id") (natural r.id) ∷ []

-- where it has a box
abbrev pub touched_fields : Option Area → List Field
touched_fields None = []
touched_fields (Some b) = box_fields b

-- it is open where its end is not told
unfoldable pub open_fields : ChangesetRow → List Field
open_fields r = field (codes "open") (boolean (is_none r.closes)) ∷ []

unfoldable pub owner_fields : Owner → List Field
owner_fields owner = field (codes "uid") (natural owner.id) ∷ field (codes "user") (string owner.name) ∷ []

unfoldable pub changeset_row : ChangesetRow → Data
changeset_row r = record_of (
    life_fields r
    ++ (touched_fields r.touched
    ++ (open_fields r
    ++ (field (codes "tags") (tags r.tags) ∷ owner_fields r.owner))))

unfoldable pub changeset : ChangesetRow → Data
changeset r = document (codes "changeset") (changeset_row r)

unfoldable pub changesets : List ChangesetRow → Data
changesets rows = document (codes "changesets") (list_of changeset_row rows)
