use Rattle.snapshot_rows.proofs.rows.play_hub.Given as goal

abbrev pub ghosts-play_new : goal.ghosts-play_new
ghosts-play_new g a = record { book = a.seats.opened; sessions = a.seats.sessions }
