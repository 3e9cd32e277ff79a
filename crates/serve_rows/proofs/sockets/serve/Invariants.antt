use Rattle.serve_rows.proofs.sockets.serve.Given as goal

abbrev pub ghosts-serve_ports : goal.ghosts-serve_ports
ghosts-serve_ports g a = record { book = a.seats.opened; sessions = a.seats.sessions }

abbrev pub ghosts-notes_all : goal.ghosts-notes_all
ghosts-notes_all g a = record { book = a.seats.opened; sessions = a.seats.sessions }
