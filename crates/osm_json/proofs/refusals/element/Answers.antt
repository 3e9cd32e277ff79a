use Rattle.osm_json.specs.Refused.{element_fields}
use Rattle.osm_json.proofs.refusals.element.Goals as goal

pub returns : goal.returns
unfolding element_fields
returns c = simp (c.said.ensures, c.operation.ensures, c.kind_name.ensures) at c.members.ensures
