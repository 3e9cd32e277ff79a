use Rattle.journal_follower.proofs.Fed.{calls_on, after_on}
use Rattle.journal_follower.proofs.law.calls_append.Goals as goal

pub returns : goal.returns
returns c = record { calls = calls_on; after = after_on }
