use Rattle.kept_rows.proofs.shelves.two_threads.Given as goal

abbrev pub ghosts-by_two-N-HubName : goal.ghosts-by_two-N-HubName
ghosts-by_two-N-HubName g a = record { book = a.list; sessions = 0 }

abbrev pub ghosts-by_two-K-HubName : goal.ghosts-by_two-K-HubName
ghosts-by_two-K-HubName g a = record { book = a.receipts; sessions = 0 }
