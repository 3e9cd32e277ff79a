use Rattle.journal_text.proofs.Legal.{legal_more, follows_last, front_legal}
use Rattle.journal_text.proofs.law.legal_journals_grow.Goals as goal

pub returns : goal.returns
returns c = record { more = legal_more; follows = follows_last; front = front_legal }
