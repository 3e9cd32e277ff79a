use Rattle.std.proofs.Common.{sym, ap, subst}
use Rattle.osm_model.specs.declared.commands.Command.{Command}
use Rattle.upload_check.specs.Commands.{IsOther}
use Rattle.map_machine.specs.Machine.{IsPlannedAs}
use Rattle.map_machine.specs.declared.plans.MapPlan.{MapPlan}
use Rattle.map_machine.specs.declared.plans.Asked.{Asked}
use Rattle.map_machine.proofs.machine.settle_plan.Goals as goal

pub settle_on-requires : goal.settle_on-requires
settle_on-requires c =
    let f = c.requires.foreseen in
    let is = subst (λ (m : MapPlan). IsPlannedAs f.begun f.asked m) c.in-Other.is f.planned in
    subst (λ (d : Command). IsOther d) (sym (ap (λ (a : Asked). a.command) is.0)) is.1

pub returns-in-Upload : goal.returns-in-Upload
returns-in-Upload c = λ begun asked made later.
    c.settle_upload.ensures begun asked (subst (λ (m : MapPlan). IsPlannedAs begun asked m) c.in-Upload.is made) later
