use Rattle.copied_file.proofs.trace.CopyTrace.beside.Given as goal

abbrev pub ghost-of : goal.ghost-of
ghost-of g a = g.copied
