use Rattle.json.proofs.Printed.Plain.{escape_on_plain}
use Rattle.osm_json.proofs.escapes.is_plain.Goals as goal

pub returns-then-text-lt-LANES : goal.returns-then-text-lt-LANES
returns-then-text-lt-LANES c = escape_on_plain c.few_are_plain.result c.args.text.now c.few_are_plain.ensures

pub returns-else-text-lt-LANES : goal.returns-else-text-lt-LANES
returns-else-text-lt-LANES c = escape_on_plain c.many_are_plain.result c.args.text.now c.many_are_plain.ensures
