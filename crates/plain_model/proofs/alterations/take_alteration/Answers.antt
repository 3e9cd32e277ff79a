use Rattle.std.proofs.Common.{◌≡◌, ◌-◌, List, slice_set, ap}
use Rattle.changeset_core.specs.declared.records.ChangesetRecord.{ChangesetRecord}
use Rattle.plain_model.proofs.Works.{set_back, on_err}
use Rattle.plain_model.proofs.alterations.take_alteration.Goals as goal

pub returns-in_err-work-in-EnterWork-clause-memory : goal.returns-in_err-work-in-EnterWork-clause-memory
returns-in_err-work-in-EnterWork-clause-memory c =
    let P = c.args.state.now in
    let place = c.in-EnterWork.changeset - 1 in
    let back : slice_set P.changesets place c.work.new.self ≡ P.changesets =
    set_back P.changesets place c.item_mut-kept-in-EnterWork.result.now c.work.new.self c.item_mut-kept-in-EnterWork.ensures.value c.in_err-work-in-EnterWork.ensures.err
    in
    on_err c.from_residual.result _ (ap (λ (rs : List ChangesetRecord). record P { changesets = rs }) back)
