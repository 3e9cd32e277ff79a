use Rattle.std.proofs.Common.{subst}
use mathlib.Core.List.{IsPrefix}
use Rattle.kept_serve.proofs.Leaving.{kept_all}
use Rattle.kept_serve.proofs.shelving.leave_shelf.Goals as goal

pub returns-then-begins-clause-leaves : goal.returns-then-begins-clause-leaves
returns-then-begins-clause-leaves g c =
    let V = g.V.Device in
    let shelf = c.args.shelf in
    let first = c.args.first.now in
    let one = c.requires in
    kept_all g.T.Lines.text V.moment V.left_since V.faults V.may_leave g.met.V.Device.counts_now g.met.V.Device.only_now shelf.device c.into_device.result shelf.entries first c.args.had.now one.0
    c.into_device.ensures one.1 one.2 (subst (λ l. IsPrefix first l) c.front.ensures (c.begins.ensures.begins c.if-begins.true)) (c.gave.ensures.kept c.if-gave.true)
