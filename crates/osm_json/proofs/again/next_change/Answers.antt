use Rattle.std.proofs.Common.{option_map}
use Rattle.osm_json.specs.Walked.{sight, outcome}
use Rattle.osm_json.proofs.Returned.{ops_drawn, gives_drawn, pulled_raw}
use Rattle.osm_json.proofs.again.next_change.Goals as goal

pub returns-in-Ok-clause-value : goal.returns-in-Ok-clause-value
returns-in-Ok-clause-value c =
    gives_drawn _ (outcome (option_map sight c.in-Ok.found)) _ _ (ops_drawn (option_map sight c.in-Ok.found) _ _ c.in-Ok.ensures.value) c.operations.ensures.value

pub returns-in-Ok-clause-raw : goal.returns-in-Ok-clause-raw
returns-in-Ok-clause-raw c = pulled_raw _ (option_map sight c.in-Ok.found) _ _ c.in-Ok.ensures.value c.operations.ensures.value c.operations.ensures.few
