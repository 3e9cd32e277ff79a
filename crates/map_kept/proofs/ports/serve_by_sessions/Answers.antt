use Rattle.std.proofs.lemmas.List.{take_at}
use Rattle.std.proofs.lemmas.Slice.Zip.{AllZip-long}
use Rattle.std.proofs.Common.{◌≡◌, false, List, length, map, refl, ap, ◌∙◌, subst, arith, map-id}
use Rattle.std.specs.List.{AllByRecursion, list_any}
use mathlib.Core.List.{IsPrefix}
use Rattle.map_machine.specs.Machine.{map_rules}
use Rattle.osm_model.specs.declared.commands.Entry.{Entry}
use Rattle.api_desk.specs.HubDesk.{map_row}
use Rattle.link_workers.specs.Seats.{sessions_of}
use Rattle.link_workers.specs.Workers.{Works, AllWork}
use Rattle.kept_desk.specs.Kept.{AtKept, at_kept}
use Rattle.desk_serve.specs.Desks.{at_desk}
use Rattle.desk_serve.specs.Kept.{KeepsLink}
use Rattle.desk_serve.proofs.Working.{sessions_back, ports_back}
use Rattle.desk_serve.proofs.KeptWorking.{have_kept}
use Rattle.kept_serve.proofs.Working.{seen_back, all_seen, starts_are, numbers_count, had_in_hand}
use Rattle.kept_serve.proofs.GoesOn.{begun_at}
use Rattle.map_kept.proofs.ports.serve_by_sessions.Goals as goal

pub returns-clause-served : goal.returns-clause-served
returns-clause-served g c =
    let users = c.args.maker.now.users.now in
    let had = c.args.maker.now.had.now in
    let serves = KeepsLink map_rules map_row in
    let told = g.P.PortOutside.told in
    let new = c.serve_desks.new.workers in
    let stopped : List (AtKept Entry) = map (λ (d : AtKept Entry). d) (sessions_of new) in
    let long : length new ≡ length c.as_mut_slice.result.now = AllZip-long (Works serves told) _ _ c.serve_desks.ensures in
    let same : length c.as_mut_slice.result.now ≡ length c.in_ok-workers.workers.items = ap (λ l. length l) c.as_mut_slice.ensures.value in
    let count : length new ≡ c.in_ok-workers.workers.len = omega (arith, long, same, c.in_ok-workers.workers.ok) in
    let desks : c.unseat_all.new.sessions.items ≡ sessions_of new =
    sessions_back _ _ _ new c.unseat_all.ensures.sessions c.in_ok-workers.ensures.emptied.0 (take_at new _ _ count) in
    let ports : c.unseat_all.new.ports.items ≡ _ =
    ports_back _ _ _ new c.unseat_all.ensures.ports c.in_ok-workers.ensures.emptied.1 (take_at new _ _ count) in (
      stopped,
      seen_back (λ (d : AtKept Entry). d) (λ s. s.desk.known) _ _ _ _ c.leave_desks.ensures.sessions c.in_ok-left.ensures.items desks,
      seen_back (λ (d : AtKept Entry). d) (λ s. s.receipts) _ _ _ _ c.leave_desks.ensures.in_hand c.in_ok-receipts.ensures.items desks,
      λ none. subst (λ l. AllByRecursion (λ (s : AtKept Entry). s.failed ≡ false) (map (λ (d : AtKept Entry). d) l)) desks
          (all_seen (λ (d : AtKept Entry). d) (λ s. s.failed ≡ false) c.unseat_all.new.sessions.items
          (subst (λ l. AllByRecursion (λ desk. desk.failed ≡ false) l) c.as_slice-2.ensures.value (c.any_withheld-withheld.ensures none))),
      λ numbers J known.
          have_kept map_rules map_row serves (λ (d : AtKept Entry). d) (λ old new before after end h. h) users J had told numbers c.in_ok-desks.desks.items c.args.ports.now.items
          c.unseat_all.new.ports.items new stopped c.any_failed-failed.result
          (map-id c.in_ok-desks.desks.items ∙ (c.in_ok-desks.ensures
          ∙ starts_are (λ s. s) (λ k. at_kept (at_desk users k) 0 had false) (begun_at map_rules J) c.args.sessions.items numbers (map-id c.args.sessions.items ∙ known)))
          (omega (arith, numbers_count (λ s. s) (begun_at map_rules J) c.args.sessions.items numbers (map-id c.args.sessions.items ∙ known), c.requires, c.args.sessions.ok, c.args.ports.now.ok))
          (subst (λ l. AllWork serves told l new) (c.as_mut_slice.ensures.value ∙ c.in_ok-workers.ensures.workers) c.serve_desks.ensures)
          refl ports
          (c.any_failed-failed.ensures ∙ ap (λ l. list_any (λ w. w.failed) l) (c.as_slice.ensures.value ∙ take_at new _ _ count)),
    )

pub returns-clause-had : goal.returns-clause-had
returns-clause-had g c =
    let users = c.args.maker.now.users.now in
    let had = c.args.maker.now.had.now in
    let serves = KeepsLink map_rules map_row in
    let told = g.P.PortOutside.told in
    let new = c.serve_desks.new.workers in
    let long : length new ≡ length c.as_mut_slice.result.now = AllZip-long (Works serves told) _ _ c.serve_desks.ensures in
    let same : length c.as_mut_slice.result.now ≡ length c.in_ok-workers.workers.items = ap (λ l. length l) c.as_mut_slice.ensures.value in
    let count : length new ≡ c.in_ok-workers.workers.len = omega (arith, long, same, c.in_ok-workers.workers.ok) in
    subst (λ l. AllByRecursion (λ held. IsPrefix had held) l)
    (seen_back (λ (d : AtKept Entry). d) (λ s. s.receipts) _ _ _ _ c.leave_desks.ensures.in_hand c.in_ok-receipts.ensures.items
    (sessions_back _ _ _ new c.unseat_all.ensures.sessions c.in_ok-workers.ensures.emptied.0 (take_at new _ _ count)))
    (had_in_hand map_rules map_row serves (λ (d : AtKept Entry). d) (λ old new before after end h. h) told (λ s. at_kept (at_desk users s) 0 had false) had (λ s. refl)
    c.in_ok-desks.desks.items c.args.sessions.items c.args.ports.now.items new (map-id c.in_ok-desks.desks.items ∙ c.in_ok-desks.ensures)
    (subst (λ l. AllWork serves told l new) (c.as_mut_slice.ensures.value ∙ c.in_ok-workers.ensures.workers) c.serve_desks.ensures))
