use Rattle.std.proofs.Common.{ℕ, refl, sym, ap, ◌∙◌}
use Rattle.std.specs.Prelude.{Result, is_ok}
use Rattle.osm_base.specs.Stamp.{stamp_after}
use Rattle.osm_change.specs.declared.refusals.Refusal.{Refusal}
use Rattle.osm_later.specs.Plan.{least_plan}
use Rattle.osm_later.specs.Settle.{Done, settle_done}
use Rattle.osm_model.specs.Fold.{upload}
use Rattle.osm_world.specs.Beds.{first_ids}
use Rattle.osm_world.specs.World.{state_of}
use Rattle.upload_check.proofs.Settled.{accepted-as-settled, next-ids}
use Rattle.upload_check.proofs.acceptance.accepts_upload.Goals as goal

pub returns-clause-accepted : goal.returns-clause-accepted
returns-clause-accepted g c =
    let T = state_of c.args.world.now in
    let user = c.args.asked.now.user.now in
    let at = c.after-at.result in
    let id = c.args.asked.now.changeset in
    let ops = c.args.asked.now.change.now in
    let first = first_ids T.elements in
    let plan = least_plan T.elements id ops in
    let planned = c.changes_can_be_planned.ensures.least T.elements id ops
    (record { consistent = c.laws.ensures.consistent; begun = c.laws.ensures.begun })
    c.in_ok-verdict.ensures.formed
    in
    let settled = c.plans_settle.ensures T T plan user at first (c.maps_follow_themselves.ensures T) planned planned.stands (next-ids T.elements first refl) in
    let w = c.in_ok-verdict.ensures.watched in
    c.is_taken.ensures w.seen.rows w.saw
    ∙ ap (λ (r : Result Done Refusal). is_ok (settle_done T user at id r)) (sym (w.found id))
    ∙ sym (accepted-as-settled T user at id ops first (settle_done T user at id plan.outcome) settled)
    ∙ ap (λ (t : ℕ). is_ok (upload T user t id ops)) (c.after-at.ensures ∙ ap (λ (last : ℕ). stamp_after last c.args.asked.now.moment) c.last_stamp.ensures.value)
