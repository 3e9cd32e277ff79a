use Rattle.map_kept.proofs.server.serve_handed.Given as goal

abbrev pub ghosts-serve_kept_ports-N-HubName : goal.ghosts-serve_kept_ports-N-HubName
ghosts-serve_kept_ports-N-HubName g a = record { book = a.seats.opened; sessions = a.seats.sessions }

abbrev pub ghosts-serve_kept_ports-K-HubName : goal.ghosts-serve_kept_ports-K-HubName
ghosts-serve_kept_ports-K-HubName g a = record { book = a.receipts; sessions = 0 }
