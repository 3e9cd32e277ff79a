use Rattle.std.proofs.Common.{[], ◌∷◌, ◌++◌, refl, sym, ap, ◌∙◌, arith}
use Rattle.json.specs.Reads.{token_of}
use Rattle.serde_json.specs.Data.{number, array, object}
use Rattle.osm_json.specs.declared.fault.ReadFault.TheVariants.{NotJson}
use Rattle.osm_json.specs.Pull.{next_data}
use Rattle.osm_json.specs.Scalars.{figure_view}
use Rattle.osm_json.proofs.Firsts.{none_next, leaf_passed, end_refused, number_next, number_refused, array_next, object_next, array_too_deep, object_too_deep}
use Rattle.osm_json.proofs.Refused.{by_part, at_exit, passed_inside}
use Rattle.osm_json.proofs.Turns.{one_item, all_items, bad_item, no_member, one_member, all_members, no_key, bad_member}
use Rattle.osm_json.proofs.pass.+pass.Goals as goal

pub pass_items-returns-in_err-first-clause-value : goal.pass_items-returns-in_err-first-clause-value
pass_items-returns-in_err-first-clause-value t c =
    let l = c.loop-reader in
    let going = c.loop-reader-test.ensures in
    at_exit _ _ _ _ _ NotJson c.from_residual.ensures.1 (bad_item l.invariant.1 going.0 (ap (next_data c.args.depth) (sym going.1 ∙ c.in_err-first.ensures) ∙ none_next c.args.depth))

pub pass_items-loop-reader-preserved : goal.pass_items-loop-reader-preserved
pass_items-loop-reader-preserved t c =
    let l = c.loop-reader in
    let going = c.loop-reader-test.ensures in
    let passed = c.in_ok-pass_rest.ensures.value in
    (l.invariant.0 ++ passed.source ∷ [], one_item l.invariant.1 _ passed.source going.0 (ap (next_data c.args.depth) (sym going.1 ∙ c.in_ok-first.ensures) ∙ passed.begins))

pub pass_items-returns-in_err-pass_rest-clause-value : goal.pass_items-returns-in_err-pass_rest-clause-value
pass_items-returns-in_err-pass_rest-clause-value t c =
    let l = c.loop-reader in
    let going = c.loop-reader-test.ensures in
    at_exit _ _ _ _ _ c.in_err-pass_rest.field-0.0 c.from_residual-in_err-pass_rest.ensures.1
    (by_part c.in_err-pass_rest.field-0.0 _ _ c.in_err-pass_rest.ensures.value (λ e. bad_item l.invariant.1 going.0 (ap (next_data c.args.depth) (sym going.1 ∙ c.in_ok-first.ensures) ∙ e)))

pub pass_items-returns-clause-value : goal.pass_items-returns-clause-value
pass_items-returns-clause-value t c =
    record { source = _; begins = all_items c.loop-reader.invariant.1 _ c.loop-reader-test.ensures; reads = refl }

pub pass_members-loop-reader-init : goal.pass_members-loop-reader-init
pass_members-loop-reader-init t c = (_, no_member c.args.depth _)

pub pass_members-returns-in_err-next_key-clause-value : goal.pass_members-returns-in_err-next_key-clause-value
pass_members-returns-in_err-next_key-clause-value t c =
    at_exit _ _ _ _ _ NotJson c.from_residual.ensures.1 (no_key c.loop-reader.invariant.1 c.in_err-next_key.ensures.value)

pub pass_members-returns-in_err-first-clause-value : goal.pass_members-returns-in_err-first-clause-value
pass_members-returns-in_err-first-clause-value t c =
    let l = c.loop-reader in
    let key = rw c.in-Some.is at c.in_ok-next_key.ensures.value in
    at_exit _ _ _ _ _ NotJson c.from_residual-in_err-first.ensures.1 (bad_member l.invariant.1 _ _ key (ap (next_data c.args.depth) c.in_err-first.ensures ∙ none_next c.args.depth))

pub pass_members-loop-reader-preserved : goal.pass_members-loop-reader-preserved
pass_members-loop-reader-preserved t c =
    let l = c.loop-reader in
    let key = rw c.in-Some.is at c.in_ok-next_key.ensures.value in
    let passed = c.in_ok-pass_rest.ensures.value in
    (_, one_member l.invariant.1 _ _ _ passed.source key (ap (next_data c.args.depth) c.in_ok-first.ensures ∙ passed.begins))

pub pass_members-returns-in_err-pass_rest-clause-value : goal.pass_members-returns-in_err-pass_rest-clause-value
pass_members-returns-in_err-pass_rest-clause-value t c =
    let l = c.loop-reader in
    let key = rw c.in-Some.is at c.in_ok-next_key.ensures.value in
    at_exit _ _ _ _ _ c.in_err-pass_rest.field-0.0 c.from_residual-in_err-pass_rest.ensures.1
    (by_part c.in_err-pass_rest.field-0.0 _ _ c.in_err-pass_rest.ensures.value (λ e. bad_member l.invariant.1 _ _ key (ap (next_data c.args.depth) c.in_ok-first.ensures ∙ e)))

pub pass_members-returns-clause-value : goal.pass_members-returns-clause-value
pass_members-returns-clause-value t c =
    let over = rw c.in_default.is at c.in_ok-next_key.ensures.value in
    record { source = _; begins = all_members c.loop-reader.invariant.1 _ over; reads = refl }

pub pass_rest-returns-in-String-clause-value : goal.pass_rest-returns-in-String-clause-value
pass_rest-returns-in-String-clause-value t c = leaf_passed c.args.depth c.args.reader.now c.args.first c.in-String.is

pub pass_rest-returns-in-Some-clause-value : goal.pass_rest-returns-in-Some-clause-value
pass_rest-returns-in-Some-clause-value t c =
    record {
      source = number (figure_view c.in-Some.field-0);
      begins = ap (λ k. next_data c.args.depth (token_of k ∷ c.args.reader.now)) c.in-Number.is ∙ number_next c.args.depth c.args.reader.now c.in-Number.text.now (figure_view c.in-Some.field-0) (sym c.in-Some.ensures);
      reads = refl;
    }

pub pass_rest-returns-in-None-clause-value : goal.pass_rest-returns-in-None-clause-value
pass_rest-returns-in-None-clause-value t c =
    ap (λ k. next_data c.args.depth (token_of k ∷ c.args.reader.now)) c.in-Number.is ∙ number_refused c.args.depth c.args.reader.now c.in-Number.text.now (sym c.in-None.ensures)

pub pass_rest-returns-in-EndObject-clause-value : goal.pass_rest-returns-in-EndObject-clause-value
pass_rest-returns-in-EndObject-clause-value t c = end_refused c.args.depth c.args.reader.now c.args.first c.in-EndObject.is

pub pass_rest-returns-then-depth-eq0-clause-value : goal.pass_rest-returns-then-depth-eq0-clause-value
pass_rest-returns-then-depth-eq0-clause-value t c =
    ap (λ k. next_data c.args.depth (token_of k ∷ c.args.reader.now)) c.in-BeginArray.is ∙ array_too_deep c.args.depth c.args.reader.now c.if-depth-eq0.true

pub pass_rest-returns-else-depth-eq0-clause-value : goal.pass_rest-returns-else-depth-eq0-clause-value
pass_rest-returns-else-depth-eq0-clause-value t c =
    let opened = ap (λ k. next_data c.args.depth (token_of k ∷ c.args.reader.now)) c.in-BeginArray.is ∙ array_next c.args.depth c.args.reader.now (omega arith) in
    passed_inside array c.pass_items.result _ _ c.pass_items.new.reader opened c.pass_items.ensures.value

pub pass_rest-returns-then-depth-eq0-2-clause-value : goal.pass_rest-returns-then-depth-eq0-2-clause-value
pass_rest-returns-then-depth-eq0-2-clause-value t c =
    ap (λ k. next_data c.args.depth (token_of k ∷ c.args.reader.now)) c.in-BeginObject.is ∙ object_too_deep c.args.depth c.args.reader.now c.if-depth-eq0-2.true

pub pass_rest-returns-else-depth-eq0-2-clause-value : goal.pass_rest-returns-else-depth-eq0-2-clause-value
pass_rest-returns-else-depth-eq0-2-clause-value t c =
    let opened = ap (λ k. next_data c.args.depth (token_of k ∷ c.args.reader.now)) c.in-BeginObject.is ∙ object_next c.args.depth c.args.reader.now (omega arith) in
    passed_inside object c.pass_members.result _ _ c.pass_members.new.reader opened c.pass_members.ensures.value
