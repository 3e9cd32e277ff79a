use Rattle.notes_serve.proofs.server.serve_handed.Given as goal

abbrev pub ghosts-notes_all : goal.ghosts-notes_all
ghosts-notes_all g a = record { book = a.seats.opened; sessions = a.seats.sessions }
