use Rattle.journal_host.specs.Told.{none_lent}
use Rattle.journal_host.proofs.trace.JournalTrace.new.Given as goal

abbrev pub ghost-of : goal.ghost-of
ghost-of a = none_lent
