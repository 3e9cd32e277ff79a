use Rattle.std.proofs.Common.{[], ◌∷◌, ◌++◌, sym, ap, ◌∙◌}
use Rattle.osm_json.specs.Pull.{next_data}
use Rattle.osm_json.proofs.Each.{one_read, list_read, list_malformed}
use Rattle.osm_json.proofs.Refused.{by_part, at_exit}
use Rattle.osm_json.proofs.Turns.{one_item, bad_item, bad_rest}
use Rattle.osm_json.proofs.lists.references_inside.Goals as goal

pub returns-in_err-member-clause-value : goal.returns-in_err-member-clause-value
returns-in_err-member-clause-value c =
    let l = c.loop-alloc in
    let going = c.loop-alloc-test.ensures in
    at_exit _ _ _ _ _ c.in_err-member.field-0.0 c.from_residual.ensures.1
    (by_part c.in_err-member.field-0.0 _ _ c.in_err-member.ensures.value (λ e. bad_item l.invariant.1 going.0 (ap (next_data c.args.depth) (sym going.1) ∙ e)))

pub loop-alloc-preserved : goal.loop-alloc-preserved
loop-alloc-preserved c =
    let l = c.loop-alloc in
    let going = c.loop-alloc-test.ensures in
    let read = c.in_ok-member.ensures.value in (
      l.invariant.0 ++ read.source ∷ [],
      one_item l.invariant.1 _ read.source going.0 (ap (next_data c.args.depth) (sym going.1) ∙ read.begins),
      rw c.in_ok-push-in-Some.ensures.items (one_read l.invariant.2 read.source c.in-Some.member (read.reads ∙ c.in-Some.is)),
    )

pub returns-in_err-pass_items-in-None-clause-value : goal.returns-in_err-pass_items-in-None-clause-value
returns-in_err-pass_items-in-None-clause-value c =
    let l = c.loop-alloc in
    let going = c.loop-alloc-test.ensures in
    let read = c.in_ok-member.ensures.value in
    at_exit _ _ _ _ _ c.in_err-pass_items-in-None.field-0.0 c.from_residual-in_err-pass_items-in-None.ensures.1
    (by_part c.in_err-pass_items-in-None.field-0.0 _ _ c.in_err-pass_items-in-None.ensures.value
    (λ e. bad_rest (one_item l.invariant.1 _ read.source going.0 (ap (next_data c.args.depth) (sym going.1) ∙ read.begins)) e))

pub returns-in-None-clause-value : goal.returns-in-None-clause-value
returns-in-None-clause-value c =
    let l = c.loop-alloc in
    let going = c.loop-alloc-test.ensures in
    let read = c.in_ok-member.ensures.value in
    let passed = c.in_ok-pass_items-in-None.ensures.value in
    list_malformed l.invariant.2 l.invariant.1 read.source _ passed.source _ going.0 (ap (next_data c.args.depth) (sym going.1) ∙ read.begins) (read.reads ∙ c.in-None.is) passed.begins

pub returns-clause-value : goal.returns-clause-value
returns-clause-value c = rw c.of.ensures (list_read c.loop-alloc.invariant.2 c.loop-alloc.invariant.1 _ c.loop-alloc-test.ensures)
