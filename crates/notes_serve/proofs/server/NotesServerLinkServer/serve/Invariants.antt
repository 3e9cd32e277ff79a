use Rattle.notes_serve.proofs.server.NotesServerLinkServer.serve.Given as goal

abbrev pub ghosts-serve_notes : goal.ghosts-serve_notes
ghosts-serve_notes g a = record { book = a.seats.opened; sessions = a.seats.sessions }
