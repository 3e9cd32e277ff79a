use Rattle.map_machine.proofs.Copies.{AreCopied}
use Rattle.map_machine.proofs.copied.CopiedRows.of.Given as goal

abbrev pub invariant-loop-row : goal.invariant-loop-row
invariant-loop-row l = AreCopied l.rows l.row-index l.tags l.owners.items l.copied.items
