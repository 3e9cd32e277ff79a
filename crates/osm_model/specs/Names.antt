-- Names of elements in an upload: by id, or by the placeholder of an earlier creation (wiki,
-- "OsmChange").
use Rattle.std.specs.Prelude.{ℕ, ◌==◌, if◌then◌else◌, List, map, slice_get, Option, Some, None, option_and_then}
use Rattle.osm_base.specs.Key.{kind_eq}
use Rattle.osm_base.specs.declared.keys.Kind.{Kind}
use Rattle.osm_base.specs.declared.keys.Key.{Key}
use Rattle.osm_element.specs.Elements.{key, count}
use Rattle.osm_element.specs.declared.contents.Content.{Content}
use Rattle.osm_element.specs.declared.contents.Content.TheVariants as content
use Rattle.osm_element.specs.declared.contents.Member.{Member}
use Rattle.osm_change.specs.Keys.{id_of}
use Rattle.osm_change.specs.Names.{said_made}
use Rattle.osm_change.specs.declared.operations.Name.{Name}
use Rattle.osm_change.specs.declared.operations.Referent.TheVariants.{Old, New}
use Rattle.osm_change.specs.declared.refusals.Said.{Said}
use Rattle.osm_change.specs.declared.refusals.Said.TheVariants.{Id}
use Rattle.osm_model.specs.Upload.{Upload}
use Rattle.osm_model.specs.declared.uploads.Progress.{Progress}

-- the key, where it is of the kind
abbrev pub of_kind : Kind → Key → Option Key
of_kind k x = if kind_eq x.kind k then Some x else None

-- the element that is named: one with a history before the upload, or the one of an earlier operation
abbrev pub known_key : Upload → Progress → Kind → Name → Option Key
known_key u g k (Old id) = if count u.before (key k id) == 0 then None else Some (key k id)
known_key u g k (New place) = option_and_then (of_kind k) (slice_get g.keys place)

-- an element as the client would name it: by its id, where it was there before the upload
abbrev pub said_key : Upload → Progress → Key → Said
said_key u g k = if count u.before k == 0 then said_made u.operations g.keys k else Id k.id

abbrev pub member_with_id : List Key → Member Name → Member ℕ
member_with_id ks m = record { kind = m.kind; name = id_of ks m.name; role = m.role }

-- a content with the ids that its names stand for
abbrev pub with_ids : List Key → Content Name → Content ℕ
with_ids ks (content.Node at) = content.Node at
with_ids ks (content.Way nodes) = content.Way (map (id_of ks) nodes)
with_ids ks (content.Relation members) = content.Relation (map (member_with_id ks) members)
