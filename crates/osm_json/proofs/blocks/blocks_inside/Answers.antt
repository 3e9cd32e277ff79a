use Rattle.std.proofs.Common.{[], ◌∷◌, ◌++◌, None, sym, ap, ◌∙◌}
use Rattle.serde_json.specs.Data.{no_items}
use Rattle.osm_json.specs.Pull.{next_data}
use Rattle.osm_json.specs.Walked.{sight, told}
use Rattle.osm_json.proofs.Refused.{by_part, at_exit}
use Rattle.osm_json.proofs.Turns.{one_item, all_items, bad_item, with_rest, bad_rest}
use Rattle.osm_json.proofs.Walks.{block_walked, no_block}
use Rattle.osm_json.proofs.blocks.blocks_inside.Goals as goal

pub returns-in_err-is_block-clause-value : goal.returns-in_err-is_block-clause-value
returns-in_err-is_block-clause-value c =
    let l = c.loop-alloc in
    let going = c.loop-alloc-test.ensures in
    at_exit _ _ _ _ _ c.in_err-is_block.field-0.0 c.from_residual.ensures.1
    (by_part c.in_err-is_block.field-0.0 _ _ c.in_err-is_block.ensures.value (λ e. bad_item l.invariant.1 going.0 (ap (next_data c.args.depth) (sym going.1) ∙ e)))

pub loop-alloc-preserved : goal.loop-alloc-preserved
loop-alloc-preserved c =
    let l = c.loop-alloc in
    let going = c.loop-alloc-test.ensures in
    let read = c.in_ok-is_block.ensures.value in (
      l.invariant.0 ++ read.source ∷ [],
      one_item l.invariant.1 _ read.source going.0 (ap (next_data c.args.depth) (sym going.1) ∙ read.begins),
      block_walked l.invariant.0 ([], None) (sight l.progress) (sight c.block.new.progress) read.source l.invariant.2 (read.reads ∙ ap (λ b. told b (sight c.block.new.progress)) c.if-not-is_block.false),
    )

pub returns-clause-value : goal.returns-clause-value
returns-clause-value c =
    let l = c.loop-alloc in
    record { source = _; begins = all_items l.invariant.1 _ c.loop-alloc-test.ensures; reads = l.invariant.2.all no_items }

pub returns-in_err-pass_items-clause-value : goal.returns-in_err-pass_items-clause-value
returns-in_err-pass_items-clause-value c =
    let l = c.loop-alloc in
    let going = c.loop-alloc-test.ensures in
    let read = c.in_ok-is_block.ensures.value in
    at_exit _ _ _ _ _ c.in_err-pass_items.field-0.0 c.from_residual-in_err-pass_items.ensures.1
    (by_part c.in_err-pass_items.field-0.0 _ _ c.in_err-pass_items.ensures.value
    (λ e. bad_rest (one_item l.invariant.1 _ read.source going.0 (ap (next_data c.args.depth) (sym going.1) ∙ read.begins)) e))

pub returns-then-not-is_block-clause-value : goal.returns-then-not-is_block-clause-value
returns-then-not-is_block-clause-value c =
    let l = c.loop-alloc in
    let going = c.loop-alloc-test.ensures in
    let read = c.in_ok-is_block.ensures.value in
    let passed = c.in_ok-pass_items.ensures.value in
    record {
      source = _;
      begins = with_rest (one_item l.invariant.1 _ read.source going.0 (ap (next_data c.args.depth) (sym going.1) ∙ read.begins)) passed.source _ passed.begins;
      reads = no_block l.invariant.0 ([], None) (sight l.progress) read.source passed.source l.invariant.2 (read.reads ∙ ap (λ b. told b (sight c.block.new.progress)) c.if-not-is_block.true);
    }
