use Rattle.map_machine.proofs.acceptance.is_change_accepted.Given as goal

abbrev pub ghosts-count_accepted : goal.ghosts-count_accepted
ghosts-count_accepted a = record { name = a.blank.name; parts = a.blank.parts }
