use Rattle.std.proofs.Common.{◌≡◌, ℕ, Err, IfOk, sym, ap, ap₂, ◌∙◌, subst}
use Rattle.osm_base.specs.Stamp.{stamp_after}
use Rattle.osm_base.specs.declared.people.User.{User}
use Rattle.osm_change.specs.declared.answers.Answer.{Answer}
use Rattle.machine_law.specs.declared.tags.Settled.{Settled}
use Rattle.osm_model.specs.Act.{judge}
use Rattle.osm_model.specs.declared.commands.Command.{Command}
use Rattle.osm_model.specs.declared.commands.Entry.{Entry}
use Rattle.osm_world.specs.World.{state_of}
use Rattle.upload_check.specs.Asked.{AskedUpload, IsOutcome}
use Rattle.upload_check.specs.Commands.{command_of, told_upload}
use Rattle.upload_check.specs.declared.settles.Outcome.{Outcome}
use Rattle.map_machine.specs.Judging.{IsToldOf}
use Rattle.map_machine.specs.declared.plans.Asked.{Asked}
use Rattle.map_machine.proofs.PlanSteps.{accepted-told, acts-accepted, acts-refused, refused-judged}
use Rattle.map_machine.proofs.machine.settle_upload.Goals as goal

same-asked : (u v : User) (c d : Command) → u ≡ v → c ≡ d → ◌≡◌ {A = Asked} (record { user = u; command = c }) (record { user = v; command = d })
same-asked u v c d p q = ap₂ (λ (x : User) (y : Command). record { user = x; command = y }) p q

pub returns-in_ok-answer-in-Accepted : goal.returns-in_ok-answer-in-Accepted
returns-in_ok-answer-in-Accepted c = λ begun asked up later.
    let T = state_of c.args.world.now in
    let t = stamp_after T.last c.args.moment in
    let a = c.args.plan.asked in
    let at = c.after-at.result in
    let first = c.in-Accepted.first in
    let rows = c.in-Accepted.rows in
    let answer = c.in_ok-answer-in-Accepted.answer in
    let is = subst (λ (o : Outcome). IsOutcome T a t o) c.in-Accepted.is (c.settle-cmd.ensures.comes begun up.planned later) in
    let told = subst (λ (ans : Answer). IsToldOf (judge T a.user t (command_of a)) ans)
    (sym (c.in_ok-answer-in-Accepted.ensures ∙ ap (λ (x : AskedUpload). told_upload first x rows) c.settle-cmd.ensures.cmd))
    (accepted-told T a t first rows is) in
    let mine = subst (λ (d : Command). IsToldOf (judge T asked.user t d) answer) up.command
    (subst (λ (who : User). IsToldOf (judge T who t (command_of a)) answer) up.user told) in
    let cmd = c.settle-cmd.result.cmd in
    let same = same-asked cmd.user asked.user (command_of cmd) asked.command
    (ap (λ (x : AskedUpload). x.user) c.settle-cmd.ensures.cmd ∙ up.user)
    (ap (λ (x : AskedUpload). command_of x) c.settle-cmd.ensures.cmd ∙ up.command) in
    subst (λ (x : Settled Entry). IfOk c.accepted_upload.result (λ s. s ≡ x))
    (acts-accepted T c.args.tag c.args.moment at asked (record { user = cmd.user; command = command_of cmd }) answer mine
    (c.after-at.ensures ∙ ap (λ (last : ℕ). stamp_after last c.args.moment) c.last_stamp.ensures.value)
    same)
    c.accepted_upload.ensures

pub returns-in-Refused : goal.returns-in-Refused
returns-in-Refused c = λ begun asked up later.
    let T = state_of c.args.world.now in
    let t = stamp_after T.last c.args.moment in
    let a = c.args.plan.asked in
    let r = c.in-Refused.refusal in
    let is = subst (λ (o : Outcome). IsOutcome T a t o) c.in-Refused.is (c.settle-cmd.ensures.comes begun up.planned later) in
    let judged = refused-judged T a t r is in
    let mine = subst (λ (d : Command). judge T asked.user t d ≡ Err r) up.command
    (subst (λ (who : User). judge T who t (command_of a) ≡ Err r) up.user judged) in
    subst (λ (x : Settled Entry). IfOk c.refused.result (λ s. s ≡ x))
    (acts-refused T c.args.tag c.args.moment asked r mine)
    c.refused.ensures
