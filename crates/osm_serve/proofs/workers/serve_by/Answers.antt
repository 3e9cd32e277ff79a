use Rattle.std.proofs.lemmas.List.{take_at}
use Rattle.std.proofs.lemmas.Slice.Zip.{AllZip-long}
use Rattle.std.proofs.Common.{◌≡◌, List, length, ap, ◌∙◌, subst, arith, map-id}
use Rattle.std.specs.List.{list_any}
use Rattle.osm_model.specs.declared.commands.Entry.{Entry}
use Rattle.map_machine.specs.Machine.{map_rules}
use Rattle.api_desk.specs.HubDesk.{map_row}
use Rattle.link_workers.specs.Workers.{Works, AllWork}
use Rattle.session_desk.specs.Answered.{AtDesk}
use Rattle.desk_serve.specs.Link.{TellsLink}
use Rattle.desk_serve.proofs.Working.{have_served, sessions_back, ports_back, known_back}
use Rattle.osm_serve.proofs.workers.serve_by.Goals as goal

pub returns-clause-served : goal.returns-clause-served
returns-clause-served g c numbers fresh =
    let told = g.P.PortOutside.told in
    let serves = TellsLink map_rules map_row in
    let desks : List (AtDesk Entry) = c.in_ok-desks.desks.items in
    let long : length c.serve_desks.new.workers ≡ length c.as_mut_slice.result.now = AllZip-long (Works serves told) _ _ c.serve_desks.ensures in
    let same : length c.as_mut_slice.result.now ≡ length c.in_ok-workers.workers.items = ap (λ l. length l) c.as_mut_slice.ensures.value in
    let count : length c.serve_desks.new.workers ≡ c.in_ok-workers.workers.len = omega (arith, long, same, c.in_ok-workers.workers.ok) in
    have_served map_rules map_row serves (λ (d : AtDesk Entry). d) (λ old new before after end h. h) c.args.users.now told numbers c.args.sessions.items desks
    c.args.ports.now.items c.unseat_all.new.ports.items c.serve_desks.new.workers c.leave_desks.new.sessions.items c.any_failed-failed.result
    fresh (map-id desks ∙ c.in_ok-desks.ensures) (omega (arith, c.requires, c.args.sessions.ok, c.args.ports.now.ok))
    (subst (λ l. AllWork serves told l c.serve_desks.new.workers) (c.as_mut_slice.ensures.value ∙ c.in_ok-workers.ensures.workers) c.serve_desks.ensures)
    (known_back (λ (d : AtDesk Entry). d) _ _ _ _ c.leave_desks.ensures.sessions c.in_ok-left.ensures.items
    (sessions_back _ _ _ c.serve_desks.new.workers c.unseat_all.ensures.sessions c.in_ok-workers.ensures.emptied.0 (take_at c.serve_desks.new.workers _ _ count)))
    (ports_back _ _ _ c.serve_desks.new.workers c.unseat_all.ensures.ports c.in_ok-workers.ensures.emptied.1 (take_at c.serve_desks.new.workers _ _ count))
    (c.any_failed-failed.ensures ∙ ap (λ l. list_any (λ w. w.failed) l) (c.as_slice.ensures.value ∙ take_at c.serve_desks.new.workers _ _ count))
