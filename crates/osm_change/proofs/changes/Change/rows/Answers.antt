use Rattle.std.proofs.Common.{◌<◌, length, ap, ◌∙◌, ◌∷◌, [], ◌++◌, arith}
use Rattle.osm_change.proofs.RowsNext.{at-same, rows-next}
use Rattle.osm_change.proofs.changes.Change.rows.Goals as goal

pub loop-place-preserved : goal.loop-place-preserved
loop-place-preserved c =
    let ops = c.operations-operations.result.now in
    let i = c.loop-place.place in
    let same = ap length c.operations-operations.ensures.all in
    let in_ops : i < length ops = omega (arith, c.loop-place-test.true) in
    let in_keys : i < length c.args.keys.now = omega (arith, same, in_ops, c.requires.keys) in
    let in_done : i < length c.args.done.now = omega (arith, same, in_ops, c.requires.done) in
    c.loop-place.invariant
    ∙ rows-next c.args.self.now ops c.args.keys.now c.args.done.now i c.index-operations-place.result _ _ c.loop-place.rows.items c.push.new.self.items in_ops in_keys in_done c.index-operations-place.is
    (at-same c.args.keys.now i _ _ in_keys) (at-same c.args.done.now i _ _ in_done)
    (c.in_ok-push.ensures.items ∙ ap (λ r. c.loop-place.rows.items ++ r ∷ []) c.row-row.ensures)
