use Rattle.std.proofs.Common.{Err, sym, ap, ◌∙◌}
use Rattle.osm_change.specs.declared.refusals.Refusal.{Refusal}
use Rattle.upload_check.proofs.Passed.{all_visible, not_visible}
use Rattle.upload_check.proofs.sights.View.references.Goals as goal

pub returns-in-Ok : goal.returns-in-Ok
returns-in-Ok c = all_visible c.args.self.now c.args.content.now c.in-Ok.area c.in-Ok.ensures

pub returns-in-Err : goal.returns-in-Err
returns-in-Err c =
    not_visible c.args.self.now c.args.content.now c.in-Err.named c.in-Err.ensures
    ∙ ap (λ (x : Refusal). Err x) (sym c.missing.ensures)
