use Rattle.osm_outside.specs.Host.{listen_at}
use Rattle.osm_outside.proofs.host_trace.HostTrace.listened_at.Given as goal

abbrev pub ghost-beside_text : goal.ghost-beside_text
ghost-beside_text a = listen_at a.self.now.asked a._text.now
