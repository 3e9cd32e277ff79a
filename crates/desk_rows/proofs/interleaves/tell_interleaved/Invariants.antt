use Rattle.desk_rows.proofs.interleaves.tell_interleaved.Given as goal

abbrev pub ghosts-play : goal.ghosts-play
ghosts-play a c = record { name = c.blank.name; parts = c.blank.parts }
