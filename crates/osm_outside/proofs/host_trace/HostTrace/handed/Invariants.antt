use Rattle.std.proofs.Common.{map}
use Rattle.osm_outside.specs.Host.{hand_ports}
use Rattle.osm_outside.proofs.host_trace.HostTrace.handed.Given as goal

abbrev pub ghost-beside_ports : goal.ghost-beside_ports
ghost-beside_ports g a = hand_ports a.self.now.asked (map g.P.PortOutside.told a._ports.now)
