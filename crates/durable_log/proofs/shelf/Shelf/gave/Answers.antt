use Rattle.std.proofs.Common.{sym, subst}
use Rattle.durable_log.specs.Receipts.{AreKept}
use Rattle.durable_log.proofs.ReceiptLemmas.{first_kept}
use Rattle.durable_log.proofs.shelf.Shelf.gave.Goals as goal

pub returns-clause-kept : goal.returns-clause-kept
returns-clause-kept g c =
    let d = g.D.Device in
    let text = g.T.Lines.text in
    let inside = c.self.inside in
    let receipts = c.args.receipts.now in
    λ did.
    let front = c.begins.ensures.begins did in
    let all = subst (λ l. AreKept text d.moment d.left_since inside.file.device inside.front l) (sym front.1) c.self.invariant.1 in
    subst (λ v. AreKept text d.moment d.left_since v.device v.entries receipts) c.self.view_is (first_kept text d.moment d.left_since inside.file.device inside.front receipts front.0 all)
