use Rattle.std.proofs.lemmas.List.{take_at}
use Rattle.std.proofs.lemmas.Slice.Zip.{AllZip-long}
use Rattle.std.proofs.Common.{◌≡◌, false, length, map, refl, ap, ◌∙◌, subst, arith}
use Rattle.std.specs.List.{AllByRecursion, list_any}
use mathlib.Core.List.{IsPrefix}
use Rattle.link_workers.specs.Seats.{sessions_of}
use Rattle.link_workers.specs.Workers.{Works, AllWork}
use Rattle.snapshot_hub.specs.Known.{returner}
use Rattle.hub_core.specs.Journal.{calls_of}
use Rattle.kept_desk.specs.Kept.{at_kept}
use Rattle.desk_serve.specs.Desks.{at_desk}
use Rattle.desk_serve.proofs.Working.{sessions_back, ports_back}
use Rattle.desk_serve.proofs.KeptWorking.{have_kept}
use Rattle.kept_serve.proofs.Working.{seen_back, all_seen, starts_are, numbers_count, had_in_hand}
use Rattle.kept_serve.proofs.workers.serve_kept_by.Goals as goal

pub returns-clause-served : goal.returns-clause-served
returns-clause-served g c =
    let rules = g.M.Machine.rules in
    let X = g.X.KeptMaker in
    let maker = c.args.maker.now in
    let users = X.users maker in
    let had = X.had maker in
    let serves = g.X.Service.serves maker in
    let told = g.P.PortOutside.told in
    let new = c.serve_all.new.workers in
    let stopped = map X.keeps (sessions_of new) in
    let long : length new ≡ length c.as_mut_slice.result.now = AllZip-long (Works serves told) _ _ c.serve_all.ensures in
    let same : length c.as_mut_slice.result.now ≡ length c.in_ok-workers.workers.items = ap (λ l. length l) c.as_mut_slice.ensures.value in
    let count : length new ≡ c.in_ok-workers.workers.len = omega (arith, long, same, c.in_ok-workers.workers.ok) in
    let desks : c.unseat_all.new.sessions.items ≡ sessions_of new =
    sessions_back _ _ _ new c.unseat_all.ensures.sessions c.in_ok-workers.ensures.emptied.0 (take_at new _ _ count) in
    let ports : c.unseat_all.new.ports.items ≡ _ =
    ports_back _ _ _ new c.unseat_all.ensures.ports c.in_ok-workers.ensures.emptied.1 (take_at new _ _ count) in (
      stopped,
      seen_back X.keeps (λ s. s.desk.known) _ _ _ _ c.leave_desks.ensures.sessions (ap (λ l. map X.knows l) c.in_ok-left.ensures.items) desks,
      seen_back X.keeps (λ s. s.receipts) _ _ _ _ c.leave_desks.ensures.in_hand c.in_ok-receipts.ensures.items desks,
      λ none. subst (λ l. AllByRecursion (λ s. s.failed ≡ false) (map X.keeps l)) desks
          (all_seen X.keeps (λ s. s.failed ≡ false) c.unseat_all.new.sessions.items
          (subst (λ l. AllByRecursion (λ desk. (X.keeps desk).failed ≡ false) l) c.as_slice-2.ensures.value (c.any_withheld-withheld.ensures none))),
      λ numbers J known.
          have_kept rules X.answers serves X.keeps c.requires.serves users J had told numbers c.in_ok-desks.desks.items c.args.ports.now.items
          c.unseat_all.new.ports.items new stopped c.any_failed-failed.result
          (c.in_ok-desks.ensures ∙ starts_are X.knows (λ k. at_kept (at_desk users k) 0 had false) (λ n. returner n J (calls_of rules.tag_of n J)) c.args.sessions.items numbers known)
          (omega (arith, numbers_count X.knows (λ n. returner n J (calls_of rules.tag_of n J)) c.args.sessions.items numbers known, c.requires.count, c.args.sessions.ok, c.args.ports.now.ok))
          (subst (λ l. AllWork serves told l new) (c.as_mut_slice.ensures.value ∙ c.in_ok-workers.ensures.workers) c.serve_all.ensures)
          refl ports
          (c.any_failed-failed.ensures ∙ ap (λ l. list_any (λ w. w.failed) l) (c.as_slice.ensures.value ∙ take_at new _ _ count)),
    )

pub returns-clause-had : goal.returns-clause-had
returns-clause-had g c =
    let X = g.X.KeptMaker in
    let maker = c.args.maker.now in
    let serves = g.X.Service.serves maker in
    let told = g.P.PortOutside.told in
    let new = c.serve_all.new.workers in
    let long : length new ≡ length c.as_mut_slice.result.now = AllZip-long (Works serves told) _ _ c.serve_all.ensures in
    let same : length c.as_mut_slice.result.now ≡ length c.in_ok-workers.workers.items = ap (λ l. length l) c.as_mut_slice.ensures.value in
    let count : length new ≡ c.in_ok-workers.workers.len = omega (arith, long, same, c.in_ok-workers.workers.ok) in
    subst (λ l. AllByRecursion (λ held. IsPrefix (X.had maker) held) l)
    (seen_back X.keeps (λ s. s.receipts) _ _ _ _ c.leave_desks.ensures.in_hand c.in_ok-receipts.ensures.items
    (sessions_back _ _ _ new c.unseat_all.ensures.sessions c.in_ok-workers.ensures.emptied.0 (take_at new _ _ count)))
    (had_in_hand g.M.Machine.rules X.answers serves X.keeps c.requires.serves told (λ s. at_kept (at_desk (X.users maker) (X.knows s)) 0 (X.had maker) false) (X.had maker) (λ s. refl)
    c.in_ok-desks.desks.items c.args.sessions.items c.args.ports.now.items new c.in_ok-desks.ensures
    (subst (λ l. AllWork serves told l new) (c.as_mut_slice.ensures.value ∙ c.in_ok-workers.ensures.workers) c.serve_all.ensures))
