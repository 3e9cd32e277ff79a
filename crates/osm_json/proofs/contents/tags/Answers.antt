use Rattle.osm_json.specs.Rows.{tags}
use Rattle.osm_json.proofs.Tokens.{record_sent, sent, at_last}
use Rattle.osm_json.proofs.contents.tags.Goals as goal

pub returns : goal.returns
unfolding tags
returns c = at_last c.end_object.result c.end_object.ensures (λ end. record_sent (sent c.in_ok-begin_object.ensures) c.in_ok-pairs.ensures end)
