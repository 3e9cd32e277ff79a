use Rattle.step_rows.proofs.served.serve.Given as goal

abbrev pub ghosts-serve_ports : goal.ghosts-serve_ports
ghosts-serve_ports g a = record { book = a.opened; sessions = 0 }
