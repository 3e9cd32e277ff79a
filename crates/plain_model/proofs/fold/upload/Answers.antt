use Rattle.std.proofs.Common.{◌≡◌, length, ap, arith}
use Rattle.osm_model.specs.declared.uploads.Progress.{Progress}
use Rattle.osm_model.specs.Fold.{task}
use Rattle.osm_model.specs.Upload.{Upload}
use Rattle.osm_model.proofs.Steps.{adds-operate_all}
use Rattle.plain_model.proofs.fold.upload.Goals as goal

pub returns-clause-keys : goal.returns-clause-keys
returns-clause-keys c =
    let u : Upload = task c.args.state.now.elements c.args.id c.args.at c.operations.result.now in
    let added = adds-operate_all u c.in_ok-progress.progress c.operations.result.now c.operate_all.new.progress c.in_ok-operate_all.ensures in
    let none : length c.in_ok-progress.progress.keys ≡ 0 = ap (λ (g : Progress). length g.keys) c.in_ok-progress.ensures in
    let all : length c.operations.result.now ≡ length c.args.change.now = ap length c.operations.ensures.all in
    omega (arith, added.keys, none, all)

pub returns-clause-done : goal.returns-clause-done
returns-clause-done c =
    let u : Upload = task c.args.state.now.elements c.args.id c.args.at c.operations.result.now in
    let added = adds-operate_all u c.in_ok-progress.progress c.operations.result.now c.operate_all.new.progress c.in_ok-operate_all.ensures in
    let none : length c.in_ok-progress.progress.done ≡ 0 = ap (λ (g : Progress). length g.done) c.in_ok-progress.ensures in
    let all : length c.operations.result.now ≡ length c.args.change.now = ap length c.operations.ensures.all in
    omega (arith, added.done, none, all)
