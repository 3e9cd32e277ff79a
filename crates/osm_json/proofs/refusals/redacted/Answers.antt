use Rattle.osm_json.specs.Refused.{redacted_fields}
use Rattle.osm_json.proofs.refusals.redacted.Goals as goal

pub returns : goal.returns
unfolding redacted_fields
returns c = simp (c.said.ensures, c.kind_name.ensures) at c.members.ensures
