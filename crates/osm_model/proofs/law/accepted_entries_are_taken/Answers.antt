use Rattle.osm_model.proofs.Taken.{entry_taken}
use Rattle.osm_model.proofs.law.accepted_entries_are_taken.Goals as goal

pub returns : goal.returns
returns c = entry_taken
