-- The tags behind a pointer.
use Rattle.std.specs.Prelude.{List, [], Option, None, Some}
use Rattle.std.specs.Global.{Box}
use Rattle.osm_element.specs.Tags.{Tag}
use Rattle.osm_element.specs.declared.labels.PlacedTable.{PlacedTable}

-- what stands behind the pointer, if it leads anywhere
abbrev pub tags_in : Option (Box PlacedTable) → List Tag
tags_in None = []
tags_in (Some placed) = placed.value.table
