use Rattle.osm_model.proofs.Stamped.{replay_stamped}
use Rattle.osm_model.proofs.law.versions_are_stamped_in_order.Goals as goal

pub returns : goal.returns
returns c = replay_stamped
