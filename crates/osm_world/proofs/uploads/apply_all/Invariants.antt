use Rattle.std.proofs.Common.{◌≡◌, ◌≤◌, length, drop}
use Rattle.std.specs.Vec.Iter.{into_iter_items}
use Rattle.osm_base.specs.Place.{Position}
use Rattle.osm_base.specs.declared.keys.Key.{Key}
use Rattle.history_store.specs.Store.{free}
use Rattle.reverse_refs.specs.Users.{free_in}
use Rattle.tile_grid.specs.Grid.{free_at}
use Rattle.osm_model.specs.declared.uploads.Progress.{Progress}
use Rattle.osm_world.specs.Beds.{first_ids, AreBedsOf, made, begun, entered}
use Rattle.osm_world.specs.World.{Runs}
use Rattle.osm_world.proofs.Going.{IsGoing}
use Rattle.osm_world.proofs.uploads.apply_all.Given as goal

abbrev pub invariant-loop-operation : goal.invariant-loop-operation
invariant-loop-operation l = record {
  next : (goal.iterator-loop-operation).can_next l.operation-iterator;
  finite : (goal.iterator-loop-operation).is_finite l.operation-iterator;
  beds : AreBedsOf l.laid.keys.items (first_ids l.map.elements) (into_iter_items l.operation-iterator) (drop (length l.laid.keys.items) l.laid.beds);
  keys : length (into_iter_items l.operation-iterator) ≤ l.laid.keys.free;
  versions : (k : Key) → made (drop (length l.laid.keys.items) l.laid.beds) k ≤ free l.map.versions k;
  users : (b : Key) → begun l.map.elements (drop (length l.laid.keys.items) l.laid.beds) b ≤ free_in l.map.users b;
  cells : (p : Position) → entered (into_iter_items l.operation-iterator) p ≤ free_at l.map.cells p;
  work : length (into_iter_items l.operation-iterator) ≤ l.changeset.free;
  no_more : l.changeset.free ≤ l.fn.changeset.free;
  id : l.changeset.id ≡ l.fn.changeset.id;
  going : (final : Progress)
      → Runs l.fn.map.elements l.fn.changeset.id l.at l.fn.operations final
      → IsGoing l.fn.map.elements l.fn.changeset.kept l.fn.changeset.id l.at l.fn.operations final l.map.elements l.changeset.kept l.area (into_iter_items l.operation-iterator) l.laid.keys.items;
}
