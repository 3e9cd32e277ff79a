use Rattle.osm_model.proofs.Asked.{ask_shown}
use Rattle.osm_model.proofs.law.answers_have_moments.Goals as goal

pub returns : goal.returns
returns c = ask_shown
