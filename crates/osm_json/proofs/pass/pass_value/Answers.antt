use Rattle.std.proofs.Common.{ap, ◌∙◌}
use Rattle.osm_json.specs.declared.fault.ReadFault.TheVariants.{NotJson}
use Rattle.osm_json.specs.Pull.{next_data}
use Rattle.osm_json.proofs.Firsts.{none_next}
use Rattle.osm_json.proofs.Refused.{at_exit}
use Rattle.osm_json.proofs.pass.pass_value.Goals as goal

pub returns-in_err-first-clause-value : goal.returns-in_err-first-clause-value
returns-in_err-first-clause-value c =
    at_exit _ _ _ _ _ NotJson c.from_residual.ensures.1 (ap (next_data c.args.depth) c.in_err-first.ensures ∙ none_next c.args.depth)
