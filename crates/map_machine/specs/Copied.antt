-- Copied rows: their tags and their owners stand apart.
use Rattle.std.specs.Prelude.{ℕ, ◌≡◌, ◌<◌, List, [], ◌++◌, length, get_or, Option, None, Some, IfSome}
use Rattle.osm_base.specs.declared.people.Owner.{Owner}
use Rattle.osm_element.specs.Tags.{Tag}
use Rattle.osm_change.specs.ElementRows.{ShownVersion}
use Rattle.map_machine.specs.declared.copied.CopiedRow.{CopiedRow}

abbrev pub nobody : Owner
nobody = record { id = 0; name = [] }

-- the tags at a place among lists, and none where there is no place
abbrev pub list_of : List (List Tag) → Option ℕ → List Tag
list_of lists None = []
list_of lists (Some index) = get_or lists index []

abbrev pub whole_row : List (List Tag) → List Owner → CopiedRow → ShownVersion
whole_row lists owners row = record {
  key = row.key;
  number = row.number;
  version = record row.version { tags = list_of lists row.tags };
  owner = get_or owners row.owner nobody;
}

-- what the row names is there
pub record HasParts (lists : List (List Tag)) (owners : List Owner) (row : CopiedRow) : Type 0 where
  pub tags : IfSome row.tags (λ index. index < length lists)
  pub owner : row.owner < length owners

-- the tags stand at the place, and lists were added alone
pub record KeepsTags (old new : List (List Tag)) (place : Option ℕ) (tags : List Tag) : Type 0 where
  pub more : List (List Tag)
  pub added : new ≡ old ++ more
  pub within : IfSome place (λ index. index < length new)
  pub there : list_of new place ≡ tags

-- the same of an owner
pub record KeepsOwner (old new : List Owner) (place : ℕ) (owner : Owner) : Type 0 where
  pub more : List Owner
  pub added : new ≡ old ++ more
  pub within : place < length new
  pub there : get_or new place nobody ≡ owner

-- the row is that version with what stands apart, to which was added alone
pub record KeepsRow (old_lists : List (List Tag)) (old_owners : List Owner) (lists : List (List Tag)) (owners : List Owner) (row : CopiedRow) (shown : ShownVersion) : Type 0 where
  pub more_lists : List (List Tag)
  pub more_owners : List Owner
  pub lists_added : lists ≡ old_lists ++ more_lists
  pub owners_added : owners ≡ old_owners ++ more_owners
  pub parts : HasParts lists owners row
  pub whole : whole_row lists owners row ≡ shown
