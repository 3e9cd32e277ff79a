use Rattle.osm_json.specs.Again.{natural_of}
use Rattle.osm_json.proofs.Refused.{at_exit}
use Rattle.osm_json.proofs.Scalars.{looked, flat_natural}
use Rattle.osm_json.proofs.scalar.next_natural.Goals as goal

pub returns-in_err-value-clause-value : goal.returns-in_err-value-clause-value
returns-in_err-value-clause-value c = at_exit _ _ _ _ _ c.in_err-value.field-0.0 c.from_residual.ensures.1 c.in_err-value.ensures.value

pub returns-clause-value : goal.returns-clause-value
returns-clause-value c = looked natural_of _ _ _ _ flat_natural c.in_ok-value.ensures.value c.natural.ensures
