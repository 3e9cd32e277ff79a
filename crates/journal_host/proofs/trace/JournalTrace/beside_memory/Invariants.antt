use Rattle.journal_host.proofs.trace.JournalTrace.beside_memory.Given as goal

abbrev pub ghost-of : goal.ghost-of
ghost-of g a = g.told
