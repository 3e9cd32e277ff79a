use Rattle.osm_json.specs.Refused.{version_fields}
use Rattle.osm_json.proofs.refusals.one_version.Goals as goal

pub returns : goal.returns
unfolding version_fields
returns c = simp (c.said.ensures, c.kind_name.ensures) at c.members.ensures
