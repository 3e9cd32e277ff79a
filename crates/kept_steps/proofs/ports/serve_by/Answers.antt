use Rattle.std.proofs.Common.{◌≡◌, ◌+◌, ◌++◌, false, length, map, ap, ◌∙◌, subst, sym, arith}
use Rattle.std.proofs.lemmas.List.{take_at}
use Rattle.std.proofs.lemmas.Slice.Zip.{AllZip-long}
use Rattle.std.specs.List.{AllByRecursion, list_any, sum_by}
use mathlib.Core.List.{IsPrefix}
use Rattle.osm_base.specs.declared.limits.TheConstants.{PIECE_LIMIT}
use Rattle.http_link.specs.Link.{ServesTold}
use Rattle.link_workers.specs.Seats.{sessions_of}
use Rattle.link_workers.specs.Workers.{Works, AllWork}
use Rattle.desk_serve.proofs.Working.{sessions_back, ports_back}
use Rattle.kept_steps.specs.Kept.{Tells, shows_kept, Withholds, AllowsKept}
use Rattle.kept_steps.proofs.Working.{have_kept}
use Rattle.kept_steps.proofs.ports.serve_by.Goals as goal

pub returns-clause-served : goal.returns-clause-served
returns-clause-served g c =
    let steps = g.S.Stepped.steps in
    let told = g.P.PortOutside.told in
    let maker = c.args.maker.now in
    let list = c.longest-list.result in
    let new = c.serve_desks.new.workers in
    let stopped = c.unseat_all.new.sessions.items in
    let long : length new ≡ length c.as_mut_slice.result.now = AllZip-long (Works (ServesTold PIECE_LIMIT (AllowsKept steps) Tells shows_kept Withholds) told) _ _ c.serve_desks.ensures in
    let same : length c.as_mut_slice.result.now ≡ length c.in_ok-workers.workers.items = ap (λ l. length l) c.as_mut_slice.ensures.value in
    let count : length new ≡ c.in_ok-workers.workers.len = omega (arith, long, same, c.in_ok-workers.workers.ok) in
    let desks : stopped ≡ sessions_of new =
    sessions_back _ _ _ new c.unseat_all.ensures.sessions c.in_ok-workers.ensures.emptied.0 (take_at new _ _ count) in (
      stopped,
      sym (c.leave_desks.ensures ∙ ap (λ l. l ++ map (λ it. it.keeper.receipts) c.as_slice-3.result.now) c.in_ok-receipts.ensures.items
          ∙ ap (λ l. map (λ it. it.keeper.receipts) l) c.as_slice-3.ensures.value),
      subst (λ l. AllByRecursion (λ it. IsPrefix it.desk.front list) l) c.as_slice-4.ensures.value c.longest-list.ensures.begin,
      λ fine. subst (λ l. AllByRecursion (λ it. it.keeper.failed ≡ false) l) c.as_slice-2.ensures.value (c.any_withheld-withheld.ensures fine),
      subst (λ l. length list ≡ length maker.first.now + sum_by (λ it. it.desk.grown) l) c.as_slice-5.ensures.value c.await_growth.ensures,
      have_kept steps maker.setting.now maker.first.now told maker.had.now c.args.ports.now.items c.unseat_all.new.ports.items c.in_ok-desks.desks.items stopped new
          c.len-count.result c.any_failed-failed.result c.in_ok-desks.ensures (omega (arith, c.len-count.ensures, c.args.ports.now.ok))
          (subst (λ l. AllWork (ServesTold PIECE_LIMIT (AllowsKept steps) Tells shows_kept Withholds) told l new) (c.as_mut_slice.ensures.value ∙ c.in_ok-workers.ensures.workers) c.serve_desks.ensures)
          desks (ports_back _ _ _ new c.unseat_all.ensures.ports c.in_ok-workers.ensures.emptied.1 (take_at new _ _ count))
          (c.any_failed-failed.ensures ∙ ap (λ l. list_any (λ w. w.failed) l) (c.as_slice.ensures.value ∙ take_at new _ _ count)),
    )
