use Rattle.osm_json.specs.Refused.{conflict_fields}
use Rattle.osm_json.proofs.refusals.conflict.Goals as goal

pub returns : goal.returns
unfolding conflict_fields
returns c = simp (c.said.ensures, c.operation.ensures, c.kind_name.ensures) at c.members.ensures
