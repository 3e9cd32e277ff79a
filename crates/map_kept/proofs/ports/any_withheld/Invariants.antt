use Rattle.std.proofs.Common.{◌≡◌, false, take}
use Rattle.std.specs.List.{AllByRecursion}
use Rattle.map_kept.proofs.ports.any_withheld.Given as goal

abbrev pub invariant-loop-desk : goal.invariant-loop-desk
invariant-loop-desk g l = AllByRecursion (λ desk. desk.failed ≡ false) (take l.desk-index l.desks)
