use Rattle.osm_json.proofs.Tokens.{no_fields_sent}
use Rattle.osm_json.proofs.changesets.touched.Goals as goal

pub returns-in-None : goal.returns-in-None
returns-in-None c = rw c.in-None.is no_fields_sent
