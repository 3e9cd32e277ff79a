use Rattle.osm_real.proofs.given.GivenTrace.beside.Given as goal

abbrev pub ghost-of : goal.ghost-of
ghost-of g a = g.told
