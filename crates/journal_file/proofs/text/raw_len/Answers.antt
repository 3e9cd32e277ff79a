use Rattle.std.proofs.Common.{ap, length, arith}
use Rattle.journal_file.proofs.Scans.{rest_long}
use Rattle.journal_file.proofs.text.raw_len.Goals as goal

pub overflow_sub-result : goal.overflow_sub-result
overflow_sub-result c = omega (arith, rest_long c.args.file.now, ap length c.rest_of.ensures)

pub returns : goal.returns
returns c = omega (arith, rest_long c.args.file.now, ap length c.rest_of.ensures)
