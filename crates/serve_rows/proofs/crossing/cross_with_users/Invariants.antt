use Rattle.serve_rows.proofs.crossing.cross_with_users.Given as goal

abbrev pub ghosts-cross : goal.ghosts-cross
ghosts-cross g a = record { book = a.seats.opened; sessions = a.seats.sessions }
