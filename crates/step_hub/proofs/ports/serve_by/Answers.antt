use Rattle.std.proofs.Common.{◌≡◌, ◌+◌, length, ap, ◌∙◌, subst, arith}
use Rattle.std.proofs.lemmas.List.{take_at}
use Rattle.std.proofs.lemmas.Slice.Zip.{AllZip-long}
use Rattle.std.specs.List.{AllByRecursion, list_any, sum_by}
use mathlib.Core.List.{IsPrefix}
use Rattle.osm_base.specs.declared.limits.TheConstants.{PIECE_LIMIT}
use Rattle.http_link.specs.Link.{ServesTelling}
use Rattle.link_workers.specs.Seats.{sessions_of}
use Rattle.link_workers.specs.Workers.{Works, AllWork}
use Rattle.step_hub.specs.Steps.{Allows}
use Rattle.step_hub.proofs.Working.{serves_all, sessions_back, ports_back}
use Rattle.step_hub.proofs.ports.serve_by.Goals as goal

pub returns-clause-served : goal.returns-clause-served
returns-clause-served g c =
    let steps = g.S.Stepped.steps in
    let list = c.longest-list.result in
    let workers = c.serve_desks.new.workers in
    let long : length workers ≡ length c.as_mut_slice.result.now = AllZip-long (Works (ServesTelling PIECE_LIMIT (Allows steps)) g.P.PortOutside.told) _ _ c.serve_desks.ensures in
    let same : length c.as_mut_slice.result.now ≡ length c.in_ok-workers.workers.items = ap (λ l. length l) c.as_mut_slice.ensures.value in
    let count : length workers ≡ c.in_ok-workers.workers.len = omega (arith, long, same, c.in_ok-workers.workers.ok) in
    let desks : c.unseat_all.new.sessions.items ≡ sessions_of workers =
    sessions_back _ _ _ workers c.unseat_all.ensures.sessions c.in_ok-workers.ensures.emptied.0 (take_at workers _ _ count) in
    serves_all steps c.args.setting.now g.P.PortOutside.told c.args.first.now list g.S.Stepped.legal c.args.ports.now.items c.unseat_all.new.ports.items
    c.in_ok-desks.desks.items workers c.len.result c.any_failed-failed.result c.longest-list.ensures.legal c.longest-list.ensures.goes_on c.in_ok-desks.ensures
    (omega (arith, c.len.ensures, c.args.ports.now.ok))
    (subst (λ l. AllWork (ServesTelling PIECE_LIMIT (Allows steps)) g.P.PortOutside.told l workers) (c.as_mut_slice.ensures.value ∙ c.in_ok-workers.ensures.workers) c.serve_desks.ensures)
    (subst (λ l. AllByRecursion (λ d. IsPrefix d.front list) l) (c.as_slice-2.ensures.value ∙ desks) c.longest-list.ensures.begin)
    (subst (λ l. length list ≡ length c.args.first.now + sum_by (λ d. d.grown) l) (c.as_slice-3.ensures.value ∙ desks) c.await_growth.ensures)
    (ports_back _ _ _ workers c.unseat_all.ensures.ports c.in_ok-workers.ensures.emptied.1 (take_at workers _ _ count))
    (c.any_failed-failed.ensures ∙ ap (λ l. list_any (λ w. w.failed) l) (c.as_slice.ensures.value ∙ take_at workers _ _ count))
