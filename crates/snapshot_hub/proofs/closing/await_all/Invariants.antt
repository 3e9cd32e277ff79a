use Rattle.std.proofs.Common.{take}
use Rattle.std.specs.List.{AllByRecursion}
use Rattle.snapshot_hub.specs.Closed.{HasAllOf}
use Rattle.snapshot_hub.proofs.closing.await_all.Given as goal

abbrev pub invariant-loop-session : goal.invariant-loop-session
invariant-loop-session g l = AllByRecursion (HasAllOf g.M.Machine.rules l.held.journal) (take l.session-index l.sessions)
