use Rattle.osm_model.proofs.Replayed.{leads-after}
use Rattle.osm_model.proofs.Stamped.{stamped-after}
use Rattle.osm_model.proofs.law.entries_keep_maps.Goals as goal

pub returns-clause-elements : goal.returns-clause-elements
returns-clause-elements c = λ P e. (leads-after P e).kept

pub returns-clause-moments : goal.returns-clause-moments
returns-clause-moments c = λ P e. (leads-after P e).timely

pub returns-clause-attributed : goal.returns-clause-attributed
returns-clause-attributed c = λ P e. (leads-after P e).attributed

pub returns-clause-stamped : goal.returns-clause-stamped
returns-clause-stamped c = stamped-after
