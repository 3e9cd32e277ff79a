use Rattle.std.proofs.Common.{◌≡◌, take}
use Rattle.std.specs.Prelude.{if◌then◌else◌}
use Rattle.osm_base.specs.Key.{lists_key}
use Rattle.osm_base.specs.declared.keys.Key.{Key}
use Rattle.history_store.specs.Store.{free}
use Rattle.indexed_map.proofs.promises.forget_versions.Given as goal

abbrev pub invariant-loop-key : goal.invariant-loop-key
invariant-loop-key l = record {
  elements : l.store.elements ≡ l.fn.store.elements;
  room : (k : Key) → free l.store.room k ≡ (if lists_key (take l.key-index l.keys) k then 0 else free l.fn.store.room k);
}
