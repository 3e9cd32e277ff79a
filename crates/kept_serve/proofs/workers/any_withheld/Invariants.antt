use Rattle.std.proofs.Common.{◌≡◌, false, take}
use Rattle.std.specs.List.{AllByRecursion}
use Rattle.kept_serve.proofs.workers.any_withheld.Given as goal

abbrev pub invariant-loop-desk : goal.invariant-loop-desk
invariant-loop-desk g l = AllByRecursion (λ desk. (g.X.KeptMaker.keeps desk).failed ≡ false) (take l.desk-index l.desks)
