use Rattle.note_rows.proofs.play.Given as goal

abbrev pub ghosts-two_threads_write : goal.ghosts-two_threads_write
ghosts-two_threads_write g a = record { book = a.seats.opened; sessions = a.seats.sessions }
