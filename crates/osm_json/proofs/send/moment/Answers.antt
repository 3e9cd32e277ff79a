use Rattle.std.proofs.Common.{◌∙◌}
use Rattle.osm_json.proofs.send.moment.Goals as goal

pub returns : goal.returns
returns c = rw (c.as_str.ensures.value ∙ c.moment_text-shown.ensures) at c.text.ensures
