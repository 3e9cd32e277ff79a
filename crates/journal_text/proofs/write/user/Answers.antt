use Rattle.std.proofs.Common.{codes}
use Rattle.journal_text.specs.Line.{user}
use Rattle.journal_text.proofs.write.user.Goals as goal

pub returns : goal.returns
unfolding user
returns c = rw (c.as_str.ensures, c.optional.ensures (codes "limit")) at c.record.ensures
