use Rattle.copied_file.proofs.trace.CopyTrace.begun.Given as goal

abbrev pub ghost-of : goal.ghost-of
ghost-of g a = g.copied
