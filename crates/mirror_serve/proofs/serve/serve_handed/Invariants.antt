use Rattle.mirror_serve.proofs.serve.serve_handed.Given as goal

abbrev pub ghosts-mirror_ports : goal.ghosts-mirror_ports
ghosts-mirror_ports g a = record { book = a.opened; sessions = 1 }
