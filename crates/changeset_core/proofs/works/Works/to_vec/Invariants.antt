use Rattle.std.proofs.Common.{◌≡◌}
use Rattle.std.specs.Prelude.{take}
use Rattle.changeset_core.specs.Works.{works_of}
use Rattle.changeset_core.proofs.works.Works.to_vec.Given as goal

abbrev pub invariant-loop-run : goal.invariant-loop-run
invariant-loop-run l = l.made.items ≡ works_of (take l.run-index l.run-items)
