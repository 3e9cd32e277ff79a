use Rattle.std.proofs.Common.{take}
use Rattle.std.specs.List.{AllByRecursion}
use mathlib.Core.List.{IsPrefix}
use Rattle.step_hub.proofs.fronts.longest.Given as goal

abbrev pub invariant-loop-desk : goal.invariant-loop-desk
invariant-loop-desk g l = record {
  legal : g.S.Stepped.legal l.front;
  goes_on : IsPrefix l.first l.front;
  begin : AllByRecursion (λ d. IsPrefix (g.D.FrontDesk.at d).front l.front) (take l.desk-index l.desks);
}
