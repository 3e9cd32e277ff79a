use Rattle.std.proofs.Common.{take, flat_map}
use Rattle.osm_json.specs.Rows.{reference}
use Rattle.osm_json.specs.Added.{Grows, later_text}
use Rattle.osm_json.proofs.rows.later_references.Given as goal

abbrev pub invariant-loop-member : goal.invariant-loop-member
invariant-loop-member l = Grows l.initial.out l.out (flat_map (λ m. later_text (reference m)) (take l.member-index l.list))
