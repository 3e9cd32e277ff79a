use Rattle.osm_json.specs.Refused.{user_fields}
use Rattle.osm_json.proofs.refusals.user.Goals as goal

pub returns : goal.returns
unfolding user_fields
returns c = simp (c.said.ensures, c.kind_name.ensures) at c.members.ensures
