use Rattle.std.proofs.Common.{◌≡◌, ℕ, IfOk, ap, ◌∙◌, subst}
use Rattle.osm_base.specs.Stamp.{stamp_after}
use Rattle.machine_law.specs.declared.tags.Settled.{Settled}
use Rattle.notes_core.specs.World.{state_of}
use Rattle.notes_core.specs.declared.commands.NoteEntry.{NoteEntry}
use Rattle.notes_core.proofs.Plans.{acts_accepted, acts_refused}
use Rattle.notes_core.proofs.machine.settle_on.Goals as goal

pub returns-in-Ok : goal.returns-in-Ok
returns-in-Ok c =
    let S = state_of c.args.world.now in
    let asked = c.args.asked in
    let stamped = c.after-at.ensures ∙ ap (λ (last : ℕ). stamp_after last c.args.moment) c.last_stamp.ensures.value in
    subst (λ (x : Settled NoteEntry). IfOk c.accepted.result (λ s. s ≡ x))
    (acts_accepted S c.args.tag c.args.moment c.after-at.result asked stamped (c.in-Ok.ensures.value asked.caller c.after-at.result))
    c.accepted.ensures

pub returns-in-Err : goal.returns-in-Err
returns-in-Err c =
    let S = state_of c.args.world.now in
    let asked = c.args.asked in
    let stamped = c.after-at.ensures ∙ ap (λ (last : ℕ). stamp_after last c.args.moment) c.last_stamp.ensures.value in
    subst (λ (x : Settled NoteEntry). IfOk c.refused.result (λ s. s ≡ x))
    (acts_refused S c.args.tag c.args.moment c.after-at.result asked c.in-Err.refusal stamped (c.in-Err.ensures.value asked.caller c.after-at.result))
    c.refused.ensures
