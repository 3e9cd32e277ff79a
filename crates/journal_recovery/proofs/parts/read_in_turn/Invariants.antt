use Rattle.std.proofs.Common.{◌≡◌, ◌++◌, length}
use Rattle.std.specs.Prelude.{All}
use Rattle.journal_file.specs.Whole.{packed}
use Rattle.journal_recovery.proofs.parts.read_in_turn.Given as goal

-- the lines before the rest were read
abbrev pub invariant-loop-rest : goal.invariant-loop-rest
invariant-loop-rest g l = (packed l.fn.text ≡ g.T.Lines.lines l.entries.items ++ packed l.rest) × All g.T.KeptText.is_entry l.entries.items

abbrev pub decreases-loop-rest : goal.decreases-loop-rest
decreases-loop-rest g l = length l.rest
