use Rattle.std.proofs.Common.{◌≤◌, length, ap, arith}
use Rattle.std.proofs.lemmas.List.{drop_all}
use Rattle.osm_json.proofs.WrittenOps.{none_left, last_sends}
use Rattle.osm_json.proofs.uploads.blocks.Goals as goal

pub returns-in-None : goal.returns-in-None
returns-in-None c =
    let all = c.args.change.now in
    let same = ap length c.operations-op-items.ensures.all in
    let past : length all ≤ c.loop-op.op-index = omega arith in
    none_left all _ _ _ (drop_all c.loop-op.op-index all past) (rw c.in-None.is at c.loop-op.invariant)

pub returns-in-Some : goal.returns-in-Some
returns-in-Some c =
    let all = c.args.change.now in
    let same = ap length c.operations-op-items.ensures.all in
    let past : length all ≤ c.loop-op.op-index = omega arith in
    let under = rw c.in-Some.is at c.loop-op.invariant in
    last_sends c.close.result all c.in-Some.action _ _ _ _ (drop_all c.loop-op.op-index all past) under c.close.ensures
