use Rattle.osm_json.specs.Refused.{current_fields}
use Rattle.osm_json.proofs.refusals.current.Goals as goal

pub returns : goal.returns
unfolding current_fields
returns c = simp (c.said.ensures, c.operation.ensures, c.kind_name.ensures) at c.members.ensures
