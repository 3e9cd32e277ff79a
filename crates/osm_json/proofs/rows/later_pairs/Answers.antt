use Rattle.std.proofs.Common.{[], ap, ◌∙◌, arith}
use Rattle.osm_element.specs.Tags.{Tag}
use Rattle.osm_json.specs.Rows.{tag_field}
use Rattle.osm_json.specs.Added.{field_text}
use Rattle.osm_json.proofs.Growing.{◌⨾◌, becomes, none_yet, later_one, all_later, tag_is}
use Rattle.osm_json.proofs.rows.later_pairs.Goals as goal

pub loop-index-init : goal.loop-index-init
loop-index-init c = (omega arith, none_yet (λ p. field_text (tag_field p)) c.args.tags.now)

pub loop-index-preserved : goal.loop-index-preserved
loop-index-preserved c =
    let f = λ (p : Tag). field_text (tag_field p) in
    let pair = becomes (tag_is c.pair.result.0.now c.pair.result.1.now ∙ ap f c.pair.ensures) (c.in_ok-text.ensures ⨾ c.in_ok-text-2.ensures) in
    (omega arith, later_one f c.args.tags.now c.loop-index.index ([], []) c.loop-index.invariant.0 (omega arith) c.loop-index.invariant.1 pair)

pub returns : goal.returns
returns c = all_later field_text tag_field c.args.tags.now c.loop-index.index (omega arith) c.loop-index.invariant.1
