use Rattle.journal_recovery.proofs.Causes.{held_taken}
use Rattle.journal_recovery.proofs.law.held_is_taken_up.Goals as goal

pub returns : goal.returns
returns g c = held_taken g.T.Lines.text g.T.KeptText.is_entry g.S.EntryJudge.is_legal
