use Rattle.std.proofs.Common.{tests, of_calls}
use denote.Param.Send.{sendable}
use Rattle.mirror_serve.proofs.Sendable.{mirror_send}
use Rattle.mirror_serve.proofs.ports.mirror_ports.Goals as goal

-- a mirror goes to the threads of its workers
pub serve_ports-requires-send-S : goal.serve_ports-requires-send-S
serve_ports-requires-send-S g c κs within = search (tests, of_calls, sendable, mirror_send) parts 8 depth 60 fits 20000
