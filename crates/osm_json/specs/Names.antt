-- The members that are read, by their names.
use Rattle.std.specs.Prelude.{ℕ, List, if◌then◌else◌, codes}
use Rattle.std.specs.Str.{bytes_eq}
use Rattle.osm_json.specs.declared.names.Name.{Name}
use Rattle.osm_json.specs.declared.names.Name.TheVariants as names
use Rattle.osm_json.specs.declared.names.Part.{Part}
use Rattle.osm_json.specs.declared.names.Part.TheVariants as parts
use Rattle.osm_json.specs.declared.names.Entry.{Entry}
use Rattle.osm_json.specs.declared.names.Entry.TheVariants as entries

abbrev pub name_in : List ℕ → Name
name_in key =
    if bytes_eq key (codes "type") then names.Type
    else (if bytes_eq key (codes "id") then names.Id
    else (if bytes_eq key (codes "version") then names.Version
    else (if bytes_eq key (codes "changeset") then names.Changeset
    else (if bytes_eq key (codes "lat7") then names.Lat7
    else (if bytes_eq key (codes "lon7") then names.Lon7
    else (if bytes_eq key (codes "nodes") then names.Nodes
    else (if bytes_eq key (codes "members") then names.Members
    else (if bytes_eq key (codes "tags") then names.Tags else names.Other))))))))

abbrev pub part_in : List ℕ → Part
part_in key =
    if bytes_eq key (codes "type") then parts.Type
    else (if bytes_eq key (codes "ref") then parts.Ref
    else (if bytes_eq key (codes "role") then parts.Role else parts.Other))

abbrev pub entry_in : List ℕ → Entry
entry_in key =
    if bytes_eq key (codes "create") then entries.Create
    else (if bytes_eq key (codes "modify") then entries.Modify
    else (if bytes_eq key (codes "delete") then entries.Delete
    else (if bytes_eq key (codes "if-unused") then entries.IfUnused else entries.Other)))
