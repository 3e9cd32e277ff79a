use Rattle.std.proofs.Common.{◌≡◌, ◌||◌, take}
use Rattle.std.specs.List.{list_any}
use Rattle.osm_base.specs.Key.{lists_key}
use Rattle.osm_base.specs.declared.keys.Key.{Key}
use Rattle.osm_world.specs.World.{state_of}
use Rattle.attic_reads.specs.Attic.{is_candidate}
use Rattle.attic_reads.proofs.walks.add_candidates.Given as goal

abbrev pub invariant-loop-used : goal.invariant-loop-used
invariant-loop-used l = (x : Key) → lists_key l.found.items x ≡ lists_key l.fn.found.items x || list_any (λ b. is_candidate (state_of l.world).elements l.kind b x) (take l.used-index l.among)
