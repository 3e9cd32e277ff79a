use Rattle.std.proofs.Common.{List, map, refl, sym, ap, ◌∙◌, subst}
use Rattle.osm_base.specs.Key.{lists_key}
use Rattle.osm_base.specs.declared.keys.Key.{Key}
use Rattle.osm_later.specs.Plan.{IsPlannedOn, count_look, users_look}
use Rattle.osm_world.specs.World.{state_of}
use Rattle.upload_check.specs.Asked.{AskedUpload}
use Rattle.upload_check.specs.Planned.{outcome_of}
use Rattle.upload_check.proofs.Made.{planned-by, kept-as}
use Rattle.upload_check.proofs.planning.plan_upload.Goals as goal

pub invariant_of-result : goal.invariant_of-result
invariant_of-result g c =
    let E = (state_of c.args.world.now).elements in
    let a = c.cmd.inside in
    let kept = kept-as E a.change _ _ _ c.in_ok-verdict.verdict c.in_ok-verdict.ensures.watched in
    let ks = c.in_ok-counted.counted.items in
    let us = c.in_ok-used.used.items in
    let made = c.changes_can_be_planned.ensures.made E a.changeset a.change ks us
    (record { consistent = c.laws.ensures.consistent; begun = c.laws.ensures.begun })
    c.in_ok-verdict.ensures.formed
    (λ k. c.in_ok-counted.ensures.same k ∙ ap (λ (l : List Key). lists_key l k) (c.as_slice.ensures.value ∙ kept.counts a.changeset))
    (λ k. c.in_ok-used.ensures.same k ∙ ap (λ (l : List Key). lists_key l k) (c.as_slice-2.ensures.value ∙ kept.users a.changeset))
    in
    let own = planned-by E a.changeset a.change ks us c.in_ok-counts.counts c.in_ok-users.users (outcome_of c.found_with-found.result) made
    (c.in_ok-counts.ensures ∙ ap (λ (l : List Key). map (count_look E) l) c.as_slice-3.ensures.value)
    (c.in_ok-users.ensures ∙ ap (λ (l : List Key). map (users_look E) l) c.as_slice-4.ensures.value)
    (kept.found a.changeset ∙ sym c.found_with-found.ensures.found) in
    let plan = subst (λ (y : AskedUpload). IsPlannedOn E (record { changeset = y.changeset; operations = y.change; counts = c.in_ok-counts.counts; users = c.in_ok-users.users; outcome = outcome_of c.found_with-found.result })) c.cmd.view_is own in
    record {
      rising = c.stills_say_where_they_differ.ensures.rising E (record { changeset = c.args.cmd.changeset; operations = c.args.cmd.change; counts = c.in_ok-counts.counts; users = c.in_ok-users.users; outcome = outcome_of c.found_with-found.result }) plan;
      shown = c.found_with-found.ensures.shown;
    }

pub returns-clause-planned : goal.returns-clause-planned
returns-clause-planned g c =
    let E = (state_of c.args.world.now).elements in
    let a = c.cmd.inside in
    let kept = kept-as E a.change _ _ _ c.in_ok-verdict.verdict c.in_ok-verdict.ensures.watched in
    let ks = c.in_ok-counted.counted.items in
    let us = c.in_ok-used.used.items in
    let made = c.changes_can_be_planned.ensures.made E a.changeset a.change ks us
    (record { consistent = c.laws.ensures.consistent; begun = c.laws.ensures.begun })
    c.in_ok-verdict.ensures.formed
    (λ k. c.in_ok-counted.ensures.same k ∙ ap (λ (l : List Key). lists_key l k) (c.as_slice.ensures.value ∙ kept.counts a.changeset))
    (λ k. c.in_ok-used.ensures.same k ∙ ap (λ (l : List Key). lists_key l k) (c.as_slice-2.ensures.value ∙ kept.users a.changeset))
    in
    let own = planned-by E a.changeset a.change ks us c.in_ok-counts.counts c.in_ok-users.users (outcome_of c.found_with-found.result) made
    (c.in_ok-counts.ensures ∙ ap (λ (l : List Key). map (count_look E) l) c.as_slice-3.ensures.value)
    (c.in_ok-users.ensures ∙ ap (λ (l : List Key). map (users_look E) l) c.as_slice-4.ensures.value)
    (kept.found a.changeset ∙ sym c.found_with-found.ensures.found) in
    let plan = subst (λ (y : AskedUpload). IsPlannedOn E (record { changeset = y.changeset; operations = y.change; counts = c.in_ok-counts.counts; users = c.in_ok-users.users; outcome = outcome_of c.found_with-found.result })) c.cmd.view_is own in
    record { asked = refl; planned = plan }
