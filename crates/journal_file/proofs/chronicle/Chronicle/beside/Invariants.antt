use Rattle.journal_file.proofs.chronicle.Chronicle.beside.Given as goal

abbrev pub ghost-of : goal.ghost-of
ghost-of g a = g.history
