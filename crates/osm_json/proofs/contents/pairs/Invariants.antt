use Rattle.std.proofs.Common.{take, flat_map}
use Rattle.osm_json.specs.Rows.{tag_field}
use Rattle.osm_json.specs.Sent.{Appends, field_tokens}
use Rattle.osm_json.proofs.contents.pairs.Given as goal

abbrev pub invariant-loop-index : goal.invariant-loop-index
invariant-loop-index l = Appends l.initial.out l.out (flat_map (λ p. field_tokens (tag_field p)) (take l.index l.tags))
