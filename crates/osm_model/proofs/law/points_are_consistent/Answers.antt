use Rattle.osm_model.proofs.Replayed.{point_consistent}
use Rattle.osm_model.proofs.law.points_are_consistent.Goals as goal

pub returns : goal.returns
returns c = λ es legal n. point_consistent es n
