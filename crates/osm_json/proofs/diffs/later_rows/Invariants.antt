use Rattle.std.proofs.Common.{take, flat_map}
use Rattle.osm_json.specs.Rows.{diff_row}
use Rattle.osm_json.specs.Added.{Grows, later_text}
use Rattle.osm_json.proofs.diffs.later_rows.Given as goal

abbrev pub invariant-loop-row : goal.invariant-loop-row
invariant-loop-row l = Grows l.initial.out l.out (flat_map (λ r. later_text (diff_row r)) (take l.row-index l.rows))
