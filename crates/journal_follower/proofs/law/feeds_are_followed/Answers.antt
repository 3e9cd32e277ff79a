use Rattle.journal_follower.proofs.Fed.{stays_prefix, grows, agrees}
use Rattle.journal_follower.proofs.Reached.{reaches}
use Rattle.journal_follower.proofs.law.feeds_are_followed.Goals as goal

pub returns : goal.returns
returns c = record {
  prefix = stays_prefix;
  grows = grows;
  agrees = agrees c.legal_journals_grow.ensures.follows c.legal_journals_grow.ensures.front;
  reaches = reaches c.legal_journals_grow.ensures.follows c.legal_journals_grow.ensures.front;
}
