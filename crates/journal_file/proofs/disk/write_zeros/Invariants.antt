use Rattle.journal_file.proofs.disk.write_zeros.Given as goal

abbrev pub decreases-laying : goal.decreases-laying
decreases-laying l = l.left
