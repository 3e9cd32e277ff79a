use Rattle.std.proofs.Common.{length}
use Rattle.std.specs.Prelude.{◌↔◌}
use Rattle.journal_file.specs.Settled.{HasMoreBehind}
use Rattle.journal_file.proofs.damage.has_more_behind.Given as goal

abbrev pub invariant-bytes : goal.invariant-bytes
invariant-bytes l = HasMoreBehind l.left ↔ HasMoreBehind l.rest

abbrev pub decreases-bytes : goal.decreases-bytes
decreases-bytes l = length l.left
