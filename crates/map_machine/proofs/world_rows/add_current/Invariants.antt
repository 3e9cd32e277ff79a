use Rattle.std.proofs.Common.{◌≡◌, ◌++◌, map, take}
use Rattle.osm_element.specs.Elements.{key}
use Rattle.osm_model.specs.Ask.{element_rows}
use Rattle.osm_model.specs.Reads.{current_shown}
use Rattle.osm_world.specs.World.{state_of}
use Rattle.map_machine.proofs.world_rows.add_current.Given as goal

abbrev pub invariant-loop-id : goal.invariant-loop-id
invariant-loop-id l = l.rows.items ≡ l.fn.rows.items ++ element_rows (state_of l.world) (map (λ id. current_shown (state_of l.world).elements (key l.kind id)) (take l.id-index l.ids))
