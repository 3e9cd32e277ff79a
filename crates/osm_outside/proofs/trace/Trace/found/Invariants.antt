use Rattle.std.proofs.Common.{[], ◌∷◌, ◌++◌, length}
use Rattle.osm_outside.specs.Event.{Found}
use Rattle.osm_outside.proofs.trace.Trace.found.Given as goal

abbrev pub ghost-beside_found : goal.ghost-beside_found
ghost-beside_found g a = a.self.now.events ++ Found (length a._found.now) ∷ []
