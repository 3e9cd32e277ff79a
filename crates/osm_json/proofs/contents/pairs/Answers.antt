use Rattle.std.proofs.Common.{arith}
use Rattle.osm_json.specs.Rows.{tag_field}
use Rattle.osm_json.specs.Sent.{field_tokens}
use Rattle.osm_json.proofs.Tokens.{each_sent, whole}
use Rattle.osm_json.proofs.contents.pairs.Goals as goal

pub returns : goal.returns
returns c = each_sent tag_field c.args.tags.now (whole (λ p. field_tokens (tag_field p)) c.args.tags.now c.loop-index.index (omega arith) c.loop-index.invariant)
