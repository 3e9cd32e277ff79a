use Rattle.std.proofs.Common.{◌≡◌, take}
use Rattle.step_hub.proofs.held.add_all.Given as goal

abbrev pub invariant-loop-place : goal.invariant-loop-place
invariant-loop-place g l = l.front ≡ take l.place (g.S.Stepped.list l.value)
