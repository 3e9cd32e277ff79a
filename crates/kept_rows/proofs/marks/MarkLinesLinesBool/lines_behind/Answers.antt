use Rattle.std.proofs.Common.{refl}
use Rattle.kept_rows.specs.Marks.{mark_lines}
use Rattle.kept_rows.proofs.MarkLemmas.{mark, more, have_one}
use Rattle.kept_rows.proofs.marks.MarkLinesLinesBool.lines_behind.Goals as goal

pub returns-clause-whole : goal.returns-clause-whole
returns-clause-whole c = (c.lines_law.ensures mark mark_lines refl more c.args.entries.now (have_one c.args.entries.now)).0

pub returns-clause-each : goal.returns-clause-each
returns-clause-each c = (c.lines_law.ensures mark mark_lines refl more c.args.entries.now (have_one c.args.entries.now)).1
