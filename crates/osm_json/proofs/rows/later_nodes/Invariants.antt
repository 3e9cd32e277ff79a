use Rattle.std.proofs.Common.{take, flat_map}
use Rattle.osm_json.specs.Shown.{natural}
use Rattle.osm_json.specs.Added.{Grows, later_text}
use Rattle.osm_json.proofs.rows.later_nodes.Given as goal

abbrev pub invariant-loop-id : goal.invariant-loop-id
invariant-loop-id l = Grows l.initial.out l.out (flat_map (λ n. later_text (natural n)) (take l.id-index l.ids))
