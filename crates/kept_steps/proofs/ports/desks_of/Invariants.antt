use Rattle.std.proofs.Common.{◌≡◌, replicate}
use Rattle.kept_steps.specs.Kept.{at_kept_front}
use Rattle.kept_steps.proofs.ports.desks_of.Given as goal

abbrev pub invariant-loop : goal.invariant-loop
invariant-loop g l = l.desks.items ≡ replicate l.counter (at_kept_front l.maker.setting.now l.maker.first.now l.maker.had.now)
