use Rattle.std.proofs.Common.{◌≡◌, ◌+◌, take}
use Rattle.std.specs.Prelude.{filter}
use Rattle.osm_model.specs.Selection.{is_inside}
use Rattle.osm_world.specs.World.{state_of}
use Rattle.map_call.proofs.within.nodes_within.Given as goal

abbrev pub invariant-loop-id : goal.invariant-loop-id
invariant-loop-id g l = record {
  ids : l.ids.items ≡ filter (is_inside (state_of l.world).elements l.within) (take l.id-index l.id-items);
  steps : l.steps ≡ l.fn.steps + l.id-index;
}
