use Rattle.std.proofs.Common.{◌-◌, ◌≤◌, length}
use Rattle.journal_text.specs.Text.{header}
use Rattle.journal_text.specs.declared.versions.Version.TheVariants.{Two}
use Rattle.journal_input.specs.Going.{SoFar}
use Rattle.journal_input.proofs.front.read_front.Given as goal

abbrev pub invariant-reads : goal.invariant-reads
invariant-reads g l = SoFar (g.S.Outside.told l.fn.source) (g.S.Outside.told l.source) l.front.items × (length l.front.items ≤ length (header Two))

abbrev pub decreases-reads : goal.decreases-reads
decreases-reads g l = length (header Two) - length l.front.items
