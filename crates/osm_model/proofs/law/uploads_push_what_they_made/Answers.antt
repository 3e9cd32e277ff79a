use Rattle.osm_model.proofs.Made.{upload-pushes}
use Rattle.osm_model.proofs.law.uploads_push_what_they_made.Goals as goal

pub returns : goal.returns
returns c = upload-pushes
