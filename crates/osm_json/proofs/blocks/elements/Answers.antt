use Rattle.std.proofs.Common.{[], ◌∷◌, ◌++◌, sym, ap, ◌∙◌}
use Rattle.serde_json.specs.Data.{no_items}
use Rattle.osm_json.specs.Pull.{next_data}
use Rattle.osm_json.proofs.Refused.{by_part, at_exit}
use Rattle.osm_json.proofs.Turns.{one_item, all_items, bad_item}
use Rattle.osm_json.proofs.Walks.{one_walked}
use Rattle.osm_json.proofs.blocks.elements.Goals as goal

pub loop-alloc-preserved : goal.loop-alloc-preserved
loop-alloc-preserved c =
    let l = c.loop-alloc in
    let going = c.loop-alloc-test.ensures in
    let read = c.in_ok-element.ensures.value in (
      l.invariant.0 ++ read.source ∷ [],
      one_item l.invariant.1 _ read.source going.0 (ap (next_data c.args.depth) (sym going.1) ∙ read.begins),
      one_walked c.args.action l.invariant.0 _ _ _ read.source l.invariant.2 read.reads,
    )

pub returns-in_err-element-clause-value : goal.returns-in_err-element-clause-value
returns-in_err-element-clause-value c =
    let l = c.loop-alloc in
    let going = c.loop-alloc-test.ensures in
    at_exit _ _ _ _ _ c.in_err-element.field-0.0 c.from_residual.ensures.1
    (by_part c.in_err-element.field-0.0 _ _ c.in_err-element.ensures.value (λ e. bad_item l.invariant.1 going.0 (ap (next_data c.args.depth) (sym going.1) ∙ e)))

pub returns-clause-value : goal.returns-clause-value
returns-clause-value c =
    let l = c.loop-alloc in
    record { source = _; begins = all_items l.invariant.1 _ c.loop-alloc-test.ensures; reads = l.invariant.2.all no_items }
