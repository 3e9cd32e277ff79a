use Rattle.std.proofs.Common.{◌≡◌, ◌∙◌, get_or, subst, arith, rules}
use Rattle.osm_model.specs.Upload.{Upload}
use Rattle.osm_model.proofs.Steps.{adds-operate}
use Rattle.plain_model.proofs.Folding.{operate_all-step}
use Rattle.plain_model.proofs.fold.operate_all.Goals as goal

pub loop-operation-preserved : goal.loop-operation-preserved
loop-operation-preserved c =
    let u = c.args.upload.now in
    let l = c.loop-operation in
    let h = c.operate.new.progress in
    let passed = c.in_ok-operate.ensures in (
      l.invariant.0
          ∙ operate_all-step u l.progress h u.operations l.operation-index c.operation-item.result (search rules) (subst (λ (v : Upload). c.operation-item.result ≡ get_or v.operations l.operation-index c.operation-item.result) c.upload.view_is c.operation-item.is) passed,
      omega (arith, (adds-operate u l.progress c.operation-item.result h passed).keys, l.invariant.1),
    )
