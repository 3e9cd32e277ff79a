use Rattle.std.proofs.Common.{tests, of_calls}
use denote.Param.Send.{sendable}
use Rattle.map_kept.proofs.Sendable.{kept_desk_send}
use Rattle.map_kept.proofs.ports.serve_desks.Goals as goal

-- a worker's desk goes to its thread
pub serve_all-requires-send-S-Session : goal.serve_all-requires-send-S-Session
serve_all-requires-send-S-Session g c κs within = search (tests, of_calls, sendable, kept_desk_send) parts 8 depth 60 fits 20000
