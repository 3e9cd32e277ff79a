use Rattle.osm_json.specs.Shown.{natural}
use Rattle.osm_json.specs.Added.{later_text}
use Rattle.std.proofs.Common.{arith}
use Rattle.osm_json.proofs.Growing.{one_more, whole, nothing}
use Rattle.osm_json.proofs.rows.later_nodes.Goals as goal

pub loop-id-init : goal.loop-id-init
loop-id-init c = nothing

pub loop-id-preserved : goal.loop-id-preserved
loop-id-preserved c = one_more (λ n. later_text (natural n)) c.args.ids.now c.loop-id.id-index 0 c.loop-id-test.true c.loop-id.invariant c.in_ok-natural.ensures

pub returns : goal.returns
returns c = whole (λ n. later_text (natural n)) c.args.ids.now c.loop-id.id-index (omega arith) c.loop-id.invariant
