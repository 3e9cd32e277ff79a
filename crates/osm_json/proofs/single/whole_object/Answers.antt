use Rattle.std.proofs.Common.{ap}
use Rattle.json.specs.Reads.{token_of}
use Rattle.osm_json.specs.Pull.{next_data, ended}
use Rattle.osm_json.proofs.Documents.{over, more_left}
use Rattle.osm_json.proofs.Refused.{by_part, at_exit}
use Rattle.osm_json.proofs.single.whole_object.Goals as goal

pub returns-in_err-found : goal.returns-in_err-found
returns-in_err-found c = at_exit _ _ _ _ _ c.in_err-found.field-0.0 c.from_residual.ensures.1 (by_part c.in_err-found.field-0.0 _ _ c.in_err-found.ensures (λ e. ap ended e))

pub returns-in-None : goal.returns-in-None
returns-in-None c = over _ _ _ c.object.new.reader c.in-None.ensures.value.0 c.in_ok-found.ensures

pub returns-in-Some : goal.returns-in-Some
returns-in-Some c = more_left (next_data 127 c.args.reader.now) c.in_ok-found.ensures.source (token_of c.in-Some.field-0) _ _ c.in_ok-found.ensures.begins c.in-Some.ensures.value
