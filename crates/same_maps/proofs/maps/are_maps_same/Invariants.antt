use Rattle.same_maps.proofs.maps.are_maps_same.Given as goal

abbrev pub ghosts-are_same_on : goal.ghosts-are_same_on
ghosts-are_same_on a = record { name = a.blank.name; parts = a.blank.parts }
