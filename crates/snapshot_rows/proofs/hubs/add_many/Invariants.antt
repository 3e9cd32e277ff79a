use Rattle.snapshot_rows.proofs.hubs.add_many.Given as goal

abbrev pub ghosts-add_all : goal.ghosts-add_all
ghosts-add_all g a = record { name = a.blank.name; parts = a.blank.parts }
