-- A journal, and a map that has taken its first entries.
use Rattle.std.specs.Prelude.{◌≡◌, ℕ, ◌≤◌, List, length}
use Rattle.osm_model.specs.Answered.{map_at}
use Rattle.osm_model.specs.declared.commands.Entry.{Entry}
use Rattle.osm_world.specs.World.{Parts, state_of}

-- the entries, and how many of them were taken
pub record Along : Type 0 where
  pub entries : List Entry
  pub seen : ℕ

-- the map is that of the journal at this point
pub record IsBeside (entries : List Entry) (world : Parts) (seen : ℕ) : Type 0 where
  pub within : seen ≤ length entries
  pub stands : state_of world ≡ map_at entries seen
