use Rattle.serve_rows.proofs.links.comes_to.Given as goal

abbrev pub ghosts-serve : goal.ghosts-serve
ghosts-serve g a = record { book = a.seats.opened; sessions = a.seats.sessions }
