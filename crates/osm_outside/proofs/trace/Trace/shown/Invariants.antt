use Rattle.std.proofs.Common.{[], ◌∷◌, ◌++◌}
use Rattle.osm_outside.specs.Event.{Showed}
use Rattle.osm_outside.proofs.trace.Trace.shown.Given as goal

abbrev pub ghost-beside_receipts : goal.ghost-beside_receipts
ghost-beside_receipts g a = a.self.now.events ++ Showed a._receipts.now ∷ []
