use Rattle.std.proofs.Common.{◌≡◌, ℕ, length, sym, ap, ◌∙◌, subst}
use Rattle.osm_base.specs.Stamp.{stamp_after}
use Rattle.osm_later.specs.Settle.{settle_done}
use Rattle.osm_world.specs.World.{state_of}
use Rattle.upload_check.specs.Asked.{IsAccepted, IsOutcome, IsRefused}
use Rattle.upload_check.specs.Planned.{Planned, plan_of}
use Rattle.upload_check.specs.declared.settles.Outcome.{Outcome}
use Rattle.upload_check.proofs.Settled.{next-ids, accepted, refused}
use Rattle.upload_check.proofs.settles.settle.Goals.{in-Ok, in-Err}
use Rattle.upload_check.proofs.settles.settle.Goals as goal

pub returns-clause-comes : goal.returns-clause-comes
returns-clause-comes c = λ begun made later.
    let T = state_of c.args.world.now in
    let a = c.args.plan.asked in
    let at = c.after-at.result in
    let first = c.first_ids-first.result in
    let next = next-ids T.elements first c.first_ids-first.ensures.value in
    let is = c.plans_settle.ensures begun T (plan_of c.args.plan) a.user at first later made c.requires.stands next in
    let stamped = c.after-at.ensures ∙ ap (λ (last : ℕ). stamp_after last c.args.moment) c.last_stamp.ensures.value in
    let came : c.settled.result ≡ settle_done T a.user at a.changeset c.args.plan.outcome =
    c.settled.ensures.value ∙ ap (λ (p : Planned). settle_done T p.asked.user at p.asked.changeset p.outcome) c.plan.view_is in
    elim c.match-settled.branch [
      | in-Ok w ↦ subst (λ (o : Outcome). IsOutcome T a (stamp_after T.last c.args.moment) o) (sym w.outcome-is)
          (subst (λ (t : ℕ). IsAccepted T a t first w.in-Ok.rows) stamped
          (accepted T a at first (settle_done T a.user at a.changeset c.args.plan.outcome) w.in-Ok.rows is (sym came ∙ w.in-Ok.is)
          c.first_ids-first.ensures.value (c.first_ids-first.ensures.few (length a.change) made.formed.few)))
      | in-Err w ↦ subst (λ (o : Outcome). IsOutcome T a (stamp_after T.last c.args.moment) o) (sym w.outcome-is)
          (subst (λ (t : ℕ). IsRefused T a t w.in-Err.refusal) stamped
          (refused T a at first (settle_done T a.user at a.changeset c.args.plan.outcome) w.in-Err.refusal is (sym came ∙ w.in-Err.is)
          w.in-Err.ensures.shown))
    ]
