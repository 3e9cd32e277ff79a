use Rattle.osm_model.proofs.Replayed.{replay_timely}
use Rattle.osm_model.proofs.law.moments_are_bounded.Goals as goal

pub returns : goal.returns
returns c = replay_timely
