use Rattle.osm_model.proofs.Replayed.{replay_attributed}
use Rattle.osm_model.proofs.law.versions_are_attributed.Goals as goal

pub returns : goal.returns
returns c = replay_attributed
