use Rattle.std.proofs.Common.{◌≡◌, length, drop}
use Rattle.osm_model.specs.Operation.{operate_all}
use Rattle.plain_model.proofs.fold.operate_all.Given as goal

abbrev pub invariant-loop-operation : goal.invariant-loop-operation
invariant-loop-operation l =
    (operate_all l.upload l.fn.progress l.upload.operations ≡ operate_all l.upload l.progress (drop l.operation-index l.upload.operations))
    × (length l.progress.keys ≡ l.operation-index)
