use Rattle.std.proofs.Common.{◌++◌, subst, arith, length-append}
use Rattle.durable_log.specs.Receipts.{AreKept}
use Rattle.durable_log.proofs.Holding.{holds_longer}
use Rattle.durable_log.proofs.ReceiptLemmas.{kept_on}
use Rattle.durable_log.proofs.shelf.receipts_stay.Goals as goal

pub returns : goal.returns
returns g c =
    let d = g.D.Device in
    let text = g.T.Lines.text in
    λ device entries longer receipts front kept.
    subst (λ l. AreKept text d.moment d.left_since device l receipts) front.1
    (kept_on text d.moment d.left_since device device entries (entries ++ front.0) receipts (omega arith) (omega (arith, length-append entries front.0))
    (λ t k le come holds f left. holds_longer text k entries front.0 f (holds f left)) kept)
