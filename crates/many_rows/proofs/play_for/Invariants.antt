use Rattle.many_rows.proofs.play_for.Given as goal

abbrev pub ghosts-play_on : goal.ghosts-play_on
ghosts-play_on g a = record { book = a.seats.opened; sessions = a.seats.sessions }
