use Rattle.std.proofs.Common.{sym, ap, ◌∙◌}
use Rattle.std.proofs.Math.ListN.{set}
use Rattle.std.proofs.lemmas.List.Edits.{map_over_more}
use Rattle.osm_change.specs.declared.raw.RawOp.{RawOp}
use Rattle.osm_json.specs.Walked.{only_unused}
use Rattle.osm_json.proofs.blocks.mark_unused.Goals as goal

pub loop-op-preserved : goal.loop-op-preserved
loop-op-preserved c =
    let l = c.loop-op in
    ap (λ (x : RawOp). set l.ops l.op-index (only_unused x)) (sym c.op-item.is)
    ∙ map_over_more only_unused c.args.ops.now l.ops l.op-index c.op-item.result c.loop-op-test.true l.invariant c.op-item.is
