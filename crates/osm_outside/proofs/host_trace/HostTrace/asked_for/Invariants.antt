use Rattle.osm_outside.specs.Host.{ask_at}
use Rattle.osm_outside.proofs.host_trace.HostTrace.asked_for.Given as goal

abbrev pub ghost-beside_text : goal.ghost-beside_text
ghost-beside_text a = ask_at a.self.now.asked a._text.now
