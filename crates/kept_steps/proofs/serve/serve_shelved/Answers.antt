use Rattle.std.proofs.Common.{◌<◌, List, map, sym, ap, ◌∙◌, subst}
use Rattle.durable_log.specs.Receipts.{AreKept, Receipt}
use Rattle.kept_steps.specs.KeptPorts.{HaveKept, AreMatched}
use Rattle.kept_serve.proofs.Leaving.{ends_sealed}
use Rattle.kept_steps.proofs.Working.{ports_kept}
use Rattle.kept_steps.proofs.serve.serve_shelved.Goals as goal

pub returns-clause-serves : goal.returns-clause-serves
returns-clause-serves g c =
    let S = g.S.Stepped in
    let V = g.V.Device in
    let text = g.T.Lines.text in
    let told = g.P.PortOutside.told in
    let J = c.args.begun.1 in
    let before = map told c.args.ports.now.items in
    let after = map told c.serve_by-served.new.ports.items in
    let shelf = c.seal_shelf-shelf.result in
    let device = c.into_device.result in
    let one = c.requires.first in
    let back = c.in-Ok.back in
    let served = c.in-Ok.ensures.served in
    ports_kept S.steps c.args.setting.now J S.legal text V.moment V.left_since V.faults c.receipts_stay.ensures before after served.0 back.receipts.items one.0 shelf.receipts
    back.list shelf.entries device back.withheld back.failed shelf.broken c.outcome_of-outcome.result c.in-Ok.ensures.legal
    c.in-Ok.ensures.goes_on
    (subst (λ l. HaveKept S.steps c.args.setting.now J l served.0 before after back.failed) one.1 served.5)
    served.1 served.2 served.3 served.4 one.2
    (subst (λ d. AreKept text V.moment V.left_since d shelf.entries shelf.receipts) (sym c.into_device.ensures) c.law.ensures.kept)
    (λ going. ap V.faults c.into_device.ensures ∙ c.law.ensures.fine going)
    (λ broken. subst (λ d. 0 < V.faults d) (sym c.into_device.ensures) (c.law.ensures.failed broken))
    (subst (λ (l : List Receipt). AreMatched l back.receipts.items back.withheld back.list shelf.entries shelf.receipts shelf.broken) one.1 c.outcome_of-outcome.ensures.matched)
    c.outcome_of-outcome.ensures.ends

pub returns-clause-sealed : goal.returns-clause-sealed
returns-clause-sealed g c =
    let shelf = c.seal_shelf-shelf.result in
    ends_sealed g.T.Lines.text g.V.Device.seen c.into_inner-shelf.result.entries shelf.device c.into_device.result c.in-Ok.back.failed shelf.broken c.outcome_of-outcome.result
    c.into_device.ensures c.outcome_of-outcome.ensures.ends (λ going. c.seal_shelf-shelf.ensures.sealed going)
