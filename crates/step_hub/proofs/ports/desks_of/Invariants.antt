use Rattle.std.proofs.Common.{◌≡◌, replicate}
use Rattle.step_hub.specs.Steps.{at_front}
use Rattle.step_hub.proofs.ports.desks_of.Given as goal

abbrev pub invariant-loop : goal.invariant-loop
invariant-loop g l = l.desks.items ≡ replicate l.counter (at_front l.setting l.first 0)
