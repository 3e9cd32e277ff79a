use Rattle.std.proofs.Common.{◌≡◌, ◌-◌, ◌≤◌, length, drop}
use Rattle.journal_file.specs.Whole.{behind_line}
use Rattle.journal_file.proofs.text.line_behind.Given as goal

-- what is still to be read tells what all of it does
abbrev pub invariant-bytes : goal.invariant-bytes
invariant-bytes l = record { line : behind_line (drop l.at l.bytes) ≡ behind_line l.bytes; inside : l.at ≤ length l.bytes }

abbrev pub decreases-bytes : goal.decreases-bytes
decreases-bytes l = length l.bytes - l.at
