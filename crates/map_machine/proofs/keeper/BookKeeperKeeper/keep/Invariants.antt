use Rattle.map_machine.proofs.keeper.BookKeeperKeeper.keep.Given as goal

abbrev pub ghosts-take : goal.ghosts-take
ghosts-take a = record { name = a.blank.name; parts = a.blank.parts }
