use Rattle.std.proofs.Common.{◌≡◌, length, All, None}
use Rattle.hub_core.proofs.running.Core.new.Given as goal

abbrev pub invariant-loop : goal.invariant-loop
invariant-loop g l = (length l.callers.items ≡ l.counter) × All (λ caller. (caller.seen ≡ 0) × (caller.plan ≡ None)) l.callers.items
