use Rattle.std.proofs.Common.{◌≡◌, take}
use Rattle.std.specs.Prelude.{filter_map}
use Rattle.osm_model.specs.Ask.{element_row}
use Rattle.osm_world.specs.World.{state_of}
use Rattle.map_machine.proofs.world_rows.element_rows.Given as goal

abbrev pub invariant-loop-one : goal.invariant-loop-one
invariant-loop-one l = l.rows.items ≡ filter_map (element_row (state_of l.world)) (take l.one-index l.shown)
