use Rattle.osm_serve.proofs.serve.MapServerLinkServer.serve.Given as goal

abbrev pub ghosts-serve_pipe : goal.ghosts-serve_pipe
ghosts-serve_pipe g a = record { book = a.seats.opened; sessions = a.seats.sessions }
