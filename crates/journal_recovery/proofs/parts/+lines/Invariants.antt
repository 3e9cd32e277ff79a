use Rattle.std.proofs.Common.{◌+◌, ◌*◌}
use Rattle.journal_recovery.proofs.parts.+lines.Given as goal

abbrev pub decreases-read_lines : goal.decreases-read_lines
decreases-read_lines g l = 2 * l.threads

abbrev pub decreases-read_front : goal.decreases-read_front
decreases-read_front g l = 2 * l.few + 1

abbrev pub decreases-read_back : goal.decreases-read_back
decreases-read_back g l = 2 * l.others + 1
