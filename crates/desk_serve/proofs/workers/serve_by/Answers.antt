use Rattle.std.proofs.lemmas.List.{take_at, length-map}
use Rattle.std.proofs.lemmas.Slice.Zip.{AllZip-long}
use Rattle.std.proofs.Common.{◌≡◌, length, map, refl, ap, ◌∙◌, subst, arith}
use Rattle.std.specs.List.{list_any}
use Rattle.link_workers.specs.Workers.{Works, AllWork}
use Rattle.snapshot_hub.specs.Known.{newcomer}
use Rattle.desk_serve.specs.Desks.{at_desk}
use Rattle.desk_serve.proofs.Working.{have_served, sessions_back, ports_back, known_back, ports_served, seen_at, seen_through}
use Rattle.desk_serve.proofs.workers.serve_by.Goals as goal

pub returns-clause-served : goal.returns-clause-served
returns-clause-served g c closed =
    let machine = g.M.Machine.rules in
    let answers = g.D.SessionDesk.answers in
    let knows = g.K.DeskMaker.knows in
    let keeps = g.K.DeskMaker.keeps in
    let serves = g.K.Service.serves c.args.maker.now in
    let told = g.P.PortOutside.told in
    let users = g.K.DeskMaker.users c.args.maker.now in
    let starts = map knows c.args.sessions.items in
    let long : length c.serve_all.new.workers ≡ length c.as_mut_slice.result.now = AllZip-long (Works serves told) _ _ c.serve_all.ensures in
    let same : length c.as_mut_slice.result.now ≡ length c.in_ok-workers.workers.items = ap (λ l. length l) c.as_mut_slice.ensures.value in
    let count : length c.serve_all.new.workers ≡ c.in_ok-workers.workers.len = omega (arith, long, same, c.in_ok-workers.workers.ok) in
    let start_count : length starts ≡ length c.args.sessions.items = length-map c.args.sessions.items knows in
    ports_served machine answers users c.args.ports.now.len (map told c.args.ports.now.items) (map told c.unseat_all.new.ports.items) starts (map knows c.leave_desks.new.sessions.items)
    c.any_failed-failed.result c.any_failed-failed.result c.links_chain.ensures c.served_stay.ensures c.points_are_consistent.ensures
    (length-map c.args.ports.now.items told ∙ omega (arith, c.args.ports.now.ok)) (omega (arith, start_count, c.requires.count, c.args.sessions.ok))
    (λ number. seen_at knows (λ k. k ≡ newcomer number) c.args.sessions.items number (c.requires.fresh number))
    (λ numbers fresh. have_served machine answers serves keeps c.requires.serves users told numbers starts c.in_ok-desks.desks.items c.args.ports.now.items c.unseat_all.new.ports.items
    c.serve_all.new.workers (map knows c.leave_desks.new.sessions.items) c.any_failed-failed.result fresh
    (c.in_ok-desks.ensures ∙ seen_through knows (at_desk users) c.args.sessions.items)
    (omega (arith, start_count, c.requires.count, c.args.sessions.ok, c.args.ports.now.ok))
    (subst (λ l. AllWork serves told l c.serve_all.new.workers) (c.as_mut_slice.ensures.value ∙ c.in_ok-workers.ensures.workers) c.serve_all.ensures)
    (known_back keeps _ _ _ _ c.leave_desks.ensures.sessions (ap (λ l. map knows l) c.in_ok-left.ensures.items)
    (sessions_back _ _ _ c.serve_all.new.workers c.unseat_all.ensures.sessions c.in_ok-workers.ensures.emptied.0 (take_at c.serve_all.new.workers _ _ count)))
    (ports_back _ _ _ c.serve_all.new.workers c.unseat_all.ensures.ports c.in_ok-workers.ensures.emptied.1 (take_at c.serve_all.new.workers _ _ count))
    (c.any_failed-failed.ensures ∙ ap (λ l. list_any (λ w. w.failed) l) (c.as_slice.ensures.value ∙ take_at c.serve_all.new.workers _ _ count)))
    refl closed
