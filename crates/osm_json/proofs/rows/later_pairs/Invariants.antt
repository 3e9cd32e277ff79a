use Rattle.std.proofs.Common.{◌≤◌, take, drop, flat_map}
use Rattle.osm_json.specs.Rows.{tag_field}
use Rattle.osm_json.specs.Added.{Grows, field_text}
use Rattle.osm_json.proofs.rows.later_pairs.Given as goal

abbrev pub invariant-loop-index : goal.invariant-loop-index
invariant-loop-index l = (1 ≤ l.index) × Grows l.initial.out l.out (flat_map (λ p. field_text (tag_field p)) (drop 1 (take l.index l.tags)))
