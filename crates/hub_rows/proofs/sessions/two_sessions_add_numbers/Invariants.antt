use Rattle.hub_rows.proofs.sessions.two_sessions_add_numbers.Given as goal

abbrev pub ghosts-play : goal.ghosts-play
ghosts-play a = record { name = a.blank.name; parts = a.blank.parts }
