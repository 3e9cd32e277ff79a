use Rattle.std.proofs.Common.{arith}
use Rattle.osm_change.specs.declared.answers.DiffRow.{DiffRow}
use Rattle.osm_json.specs.Rows.{diff_row}
use Rattle.osm_json.specs.Added.{later_text}
use Rattle.osm_json.proofs.Growing.{◌⨾◌, one_more, whole, nothing}
use Rattle.osm_json.proofs.diffs.later_rows.Goals as goal

pub loop-row-init : goal.loop-row-init
loop-row-init c = nothing

pub loop-row-preserved : goal.loop-row-preserved
loop-row-preserved c =
    one_more (λ (r : DiffRow). later_text (diff_row r)) c.args.rows.now c.loop-row.row-index _ c.loop-row-test.true c.loop-row.invariant (c.in_ok-piece.ensures ⨾ c.in_ok-diff_row.ensures)

pub returns : goal.returns
returns c = whole (λ r. later_text (diff_row r)) c.args.rows.now c.loop-row.row-index (omega arith) c.loop-row.invariant
