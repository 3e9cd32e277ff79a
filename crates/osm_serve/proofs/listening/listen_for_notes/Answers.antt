use Rattle.std.proofs.Common.{refl}
use Rattle.osm_serve.proofs.listening.listen_for_notes.Goals as goal

pub returns-in-None : goal.returns-in-None
returns-in-None g c = rw c.in-None.is (record { files = refl; comes = c.run_serve_notes.ensures })

pub returns-in-Some : goal.returns-in-Some
returns-in-Some g c = rw c.in-Some.is c.run_serve_notes_kept.ensures
