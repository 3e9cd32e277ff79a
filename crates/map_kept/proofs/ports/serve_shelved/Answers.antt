use Rattle.std.proofs.Common.{◌≡◌, ◌<◌, ℕ, length, map, take, drop, refl, sym, ap, ◌∙◌, subst, arith}
use Rattle.std.proofs.lemmas.List.{length-map}
use Rattle.journal_text.specs.Text.{text_of}
use Rattle.durable_log.specs.Receipts.{AreKept}
use Rattle.snapshot_hub.specs.Closed.{HasClosed}
use Rattle.api_desk.specs.HubDesk.{map_row}
use Rattle.map_machine.specs.Machine.{map_rules}
use Rattle.kept_serve.proofs.GoesOn.{kept_ports}
use Rattle.kept_serve.proofs.Leaving.{ends_sealed}
use Rattle.map_kept.proofs.Serving.{kept_chain, kept_longer}
use Rattle.map_kept.proofs.ports.serve_shelved.Goals as goal

pub returns-clause-serves : goal.returns-clause-serves
returns-clause-serves g c =
    let begun = c.args.begun in
    let J = begun.front in
    let seats = c.requires.seats in
    let told = g.P.PortOutside.told in
    let before = map told c.args.ports.now.items in
    let after = map told c.serve_by_sessions-served.new.ports.items in
    let back = c.in-Ok.back in
    let served = c.in-Ok.ensures.served in
    let shelf = c.seal_shelf-shelf.result in
    let device = c.into_device.result in
    let long : length before ≡ length c.args.ports.now.items = length-map c.args.ports.now.items told in
    let same : c.args.ports.now.len ≡ length before = omega (arith, long, c.args.ports.now.ok) in
    kept_ports map_rules map_row text_of g.V.Device.moment g.V.Device.left_since g.V.Device.faults kept_chain kept_longer
    c.points_are_consistent.ensures c.receipts_stay.ensures
    c.args.users.now g.N.HubName.sessions g.N.HubName.sessions J before after seats.all begun.sessions.items back.sessions.items begun.spare.items served.0
    back.receipts.items c.args.shelved.1 shelf.receipts shelf.entries device back.withheld back.failed shelf.broken c.outcome_of-outcome.result
    (omega (arith, long, c.requires.some, c.args.ports.now.ok)) (omega (arith, long, c.requires.count, c.args.ports.now.ok))
    refl seats.count seats.each
    (seats.seated ∙ ap (λ (n : ℕ). take n seats.all) same)
    (seats.left ∙ ap (λ (n : ℕ). drop n seats.all) same)
    served.1 served.2 served.3 served.4 c.in-Ok.ensures.had
    c.requires.first
    (subst (λ l. HasClosed map_rules g.N.HubName.sessions l begun.spare.items) c.deref.ensures.value
    (subst (λ l. HasClosed map_rules g.N.HubName.sessions c.deref.result.now l) c.deref-2.ensures.value c.close_with_spare.ensures.ended))
    (subst (λ d. AreKept text_of g.V.Device.moment g.V.Device.left_since d shelf.entries shelf.receipts) (sym c.into_device.ensures) c.law.ensures.kept)
    (λ going. ap g.V.Device.faults c.into_device.ensures ∙ c.law.ensures.fine going)
    (λ broken. subst (λ d. 0 < g.V.Device.faults d) (sym c.into_device.ensures) (c.law.ensures.failed broken))
    c.outcome_of-outcome.ensures.matched c.outcome_of-outcome.ensures.ends

pub returns-clause-sealed : goal.returns-clause-sealed
returns-clause-sealed g c =
    let shelf = c.seal_shelf-shelf.result in
    ends_sealed text_of g.V.Device.seen c.into_inner-shelf.result.entries shelf.device c.into_device.result c.in-Ok.back.failed shelf.broken c.outcome_of-outcome.result
    c.into_device.ensures c.outcome_of-outcome.ensures.ends (λ going. c.seal_shelf-shelf.ensures.sealed going)
