use Rattle.receipts.proofs.moment.Moment.beside.Given as goal

abbrev pub ghost-of : goal.ghost-of
ghost-of g a = g.at
