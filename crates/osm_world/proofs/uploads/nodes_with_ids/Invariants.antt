use Rattle.std.proofs.Common.{◌≡◌, ◌+◌, ◌≤◌, length, map, take}
use Rattle.osm_change.specs.Keys.{id_of}
use Rattle.osm_world.proofs.uploads.nodes_with_ids.Given as goal

abbrev pub invariant-loop-name : goal.invariant-loop-name
invariant-loop-name l = record {
  made : l.made.items ≡ map (id_of l.keys) (take l.name-index l.nodes);
  room : length l.nodes ≤ l.made.free + l.name-index;
}
