use Rattle.kept_rows.proofs.shelves.a_fault.Given as goal

abbrev pub ghosts-till_it_fails-N-HubName : goal.ghosts-till_it_fails-N-HubName
ghosts-till_it_fails-N-HubName g a = record { book = a.list; sessions = 0 }

abbrev pub ghosts-till_it_fails-K-HubName : goal.ghosts-till_it_fails-K-HubName
ghosts-till_it_fails-K-HubName g a = record { book = a.receipts; sessions = 0 }
