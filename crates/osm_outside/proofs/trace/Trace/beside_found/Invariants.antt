use Rattle.osm_outside.proofs.trace.Trace.beside_found.Given as goal

abbrev pub ghost-of : goal.ghost-of
ghost-of g a = g.events
