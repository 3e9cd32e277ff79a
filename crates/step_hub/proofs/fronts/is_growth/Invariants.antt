use Rattle.std.proofs.Common.{◌≡◌, ◌+◌, length, take}
use Rattle.std.specs.List.{sum_by}
use Rattle.step_hub.proofs.fronts.is_growth.Given as goal

abbrev pub invariant-loop-desk : goal.invariant-loop-desk
invariant-loop-desk g l = l.count ≡ length l.first + sum_by (λ d. (g.D.FrontDesk.at d).grown) (take l.desk-index l.desks)
