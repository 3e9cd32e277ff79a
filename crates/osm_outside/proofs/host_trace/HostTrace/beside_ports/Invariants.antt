use Rattle.osm_outside.proofs.host_trace.HostTrace.beside_ports.Given as goal

abbrev pub ghost-of : goal.ghost-of
ghost-of g a = g.asked
