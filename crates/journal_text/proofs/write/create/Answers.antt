use Rattle.std.proofs.Common.{codes}
use Rattle.journal_text.specs.Line.{command}
use Rattle.journal_text.proofs.write.create.Goals as goal

pub returns : goal.returns
unfolding command
returns c = rw (c.optional.ensures (codes "large_from")) at c.with_tags.ensures
