use Rattle.osm_outside.specs.Host.{take_port}
use Rattle.osm_outside.proofs.host_trace.HostTrace.back.Given as goal

abbrev pub ghost-beside_port : goal.ghost-beside_port
ghost-beside_port g a = take_port a.self.now.asked (g.P.PortOutside.told a._port.now)
