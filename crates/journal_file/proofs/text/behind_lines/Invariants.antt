use Rattle.std.proofs.Common.{◌≡◌, length}
use Rattle.journal_file.specs.Whole.{behind_lines}
use Rattle.journal_file.proofs.text.behind_lines.Given as goal

abbrev pub invariant-lines : goal.invariant-lines
invariant-lines l = behind_lines l.rest ≡ behind_lines l.bytes

abbrev pub decreases-lines : goal.decreases-lines
decreases-lines l = length l.rest
