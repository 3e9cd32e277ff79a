use Rattle.osm_model.proofs.Past.{past_replayed, entries_in_front}
use Rattle.osm_model.proofs.law.past_maps_are_replayed.Goals as goal

pub returns-clause-elements : goal.returns-clause-elements
returns-clause-elements c = past_replayed

pub returns-clause-front : goal.returns-clause-front
returns-clause-front c = entries_in_front
