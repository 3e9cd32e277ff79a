-- Maps that followed entries.
use Rattle.std.specs.Prelude.{◌≡◌, true, List}
use Rattle.machine_law.specs.Rules.{replay, is_legal}
use Rattle.osm_model.specs.declared.commands.Entry.{Entry}
use Rattle.osm_world.specs.World.{state_of}
use Rattle.map_machine.specs.Machine.{map_rules, world_of}
use Rattle.map_machine.specs.declared.machine.MapWorld.{MapWorld}

-- the map is the one after these entries, each of which was accepted
abbrev pub HasFollowed : MapWorld → List Entry → Type 0
HasFollowed world entries = (is_legal map_rules entries ≡ true) × (state_of (world_of world) ≡ replay map_rules entries)
