use Rattle.std.proofs.Common.{◌≡◌, ◌&&◌, ◌||◌, take}
use Rattle.std.specs.List.{list_any}
use Rattle.osm_base.specs.Key.{key_eq, kind_eq, lists_key}
use Rattle.osm_base.specs.declared.keys.Key.{Key}
use Rattle.attic_reads.proofs.walks.add_of_kind.Given as goal

abbrev pub invariant-loop-listed : goal.invariant-loop-listed
invariant-loop-listed l = (x : Key) → lists_key l.found.items x ≡ lists_key l.fn.found.items x || list_any (λ k. kind_eq k.kind l.kind && key_eq k x) (take l.listed-index l.keys)
