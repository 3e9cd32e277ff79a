use Rattle.mirror_serve.proofs.kept_mirror.serve_handed.Given as goal

abbrev pub ghosts-mirror_kept_ports-N-HubName : goal.ghosts-mirror_kept_ports-N-HubName
ghosts-mirror_kept_ports-N-HubName g a = record { book = a.opened; sessions = 1 }

abbrev pub ghosts-mirror_kept_ports-K-HubName : goal.ghosts-mirror_kept_ports-K-HubName
ghosts-mirror_kept_ports-K-HubName g a = record { book = a.receipts; sessions = 0 }
