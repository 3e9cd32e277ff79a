use Rattle.std.proofs.Common.{◌≡◌, ◌&&◌, take}
use Rattle.std.specs.Prelude.{filter}
use Rattle.osm_base.specs.Key.{kind_eq}
use Rattle.osm_base.specs.declared.keys.Kind.TheVariants.{Node}
use Rattle.osm_model.specs.Past.{elements_by, is_last_shown}
use Rattle.attic_reads.proofs.maps.shown_nodes.Given as goal

abbrev pub invariant-loop-key : goal.invariant-loop-key
invariant-loop-key l = l.found.items ≡ filter (λ k. kind_eq k.kind Node && is_last_shown (elements_by l.at l.store.elements) k) (take l.key-index l.listed)
