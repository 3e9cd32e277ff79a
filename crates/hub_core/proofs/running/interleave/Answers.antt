use Rattle.std.proofs.Common.{◌∙◌}
use Rattle.hub_core.specs.Core.{core_start}
use Rattle.hub_core.proofs.running.interleave.Goals as goal

pub returns-clause-journal : goal.returns-clause-journal
returns-clause-journal g c = c.in_ok-journal.ensures.journal ∙ (c.in_ok-replies.ensures (core_start c.args.sessions) c.in_ok-core.ensures).0.journal

pub returns-clause-replies : goal.returns-clause-replies
returns-clause-replies g c = (c.in_ok-replies.ensures (core_start c.args.sessions) c.in_ok-core.ensures).1
