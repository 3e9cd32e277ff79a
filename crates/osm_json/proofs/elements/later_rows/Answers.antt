use Rattle.std.proofs.Common.{arith, ap}
use Rattle.osm_change.specs.declared.answers.ElementRow.{ElementRow}
use Rattle.osm_json.specs.Rows.{element}
use Rattle.osm_json.specs.Added.{later_text}
use Rattle.osm_json.proofs.Growing.{◌⨾◌, becomes, one_more, whole, nothing}
use Rattle.osm_json.proofs.elements.later_rows.Goals as goal

pub loop-row-init : goal.loop-row-init
loop-row-init c = nothing

pub loop-row-preserved : goal.loop-row-preserved
loop-row-preserved c =
    let f = λ (r : ElementRow). later_text (element r) in
    one_more f c.args.rows.now c.loop-row.row-index c.row-item.result c.loop-row-test.true c.loop-row.invariant (becomes (ap f c.row-item.is) (c.in_ok-piece.ensures ⨾ c.in_ok-element.ensures))

pub returns : goal.returns
returns c = whole (λ r. later_text (element r)) c.args.rows.now c.loop-row.row-index (omega arith) c.loop-row.invariant
