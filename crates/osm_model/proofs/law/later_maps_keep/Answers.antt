use Rattle.osm_model.proofs.Replayed.{later-keeps}
use Rattle.osm_model.proofs.law.later_maps_keep.Goals as goal

pub returns : goal.returns
returns c = later-keeps
