use Rattle.std.proofs.Common.{◌≡◌, ◌≤◌, [], length, take}
use Rattle.osm_base.specs.Place.{Position}
use Rattle.osm_base.specs.declared.keys.Key.{Key}
use Rattle.history_store.specs.Store.{free}
use Rattle.reverse_refs.specs.Users.{free_in}
use Rattle.tile_grid.specs.Grid.{free_at}
use Rattle.osm_world.specs.Beds.{first_ids, AreBedsOf, made, begun, entered}
use Rattle.osm_world.proofs.Planned.{ids_after_all, keys_of}
use Rattle.osm_world.proofs.plans.lay_all.Given as goal

abbrev pub invariant-loop-operation : goal.invariant-loop-operation
invariant-loop-operation l = record {
  same : l.map.elements ≡ l.fn.map.elements;
  ids : l.ids ≡ ids_after_all (first_ids l.fn.map.elements) (take l.operation-index l.operations);
  keys : l.keys.items ≡ keys_of l.beds.items;
  long : length l.beds.items ≡ l.operation-index;
  beds : AreBedsOf [] (first_ids l.fn.map.elements) (take l.operation-index l.operations) l.beds.items;
  versions : (k : Key) → made l.beds.items k ≤ free l.map.versions k;
  users : (b : Key) → begun l.fn.map.elements l.beds.items b ≤ free_in l.map.users b;
  cells : (p : Position) → entered (take l.operation-index l.operations) p ≤ free_at l.map.cells p;
}
