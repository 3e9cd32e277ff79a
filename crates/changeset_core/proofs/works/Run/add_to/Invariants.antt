use Rattle.std.proofs.Common.{◌≡◌, ◌++◌}
use Rattle.changeset_core.specs.Works.{run_of}
use Rattle.changeset_core.proofs.works.Run.add_to.Given as goal

abbrev pub invariant-loop-step : goal.invariant-loop-step
invariant-loop-step l = l.made.items ≡ l.initial.made.items ++ run_of l.self-inside.kind l.self-inside.version l.self-inside.id l.step
