use Rattle.std.proofs.Common.{[], ◌∷◌, ◌++◌, sym, ap, ◌∙◌, rules, FitsSigned, w64}
use Rattle.std.proofs.lemmas.Int.{to_z-of_z}
use Rattle.osm_json.specs.Pull.{next_data}
use Rattle.osm_json.proofs.Each.{one_read, list_read, list_malformed}
use Rattle.osm_json.proofs.Refused.{by_part, at_exit}
use Rattle.osm_json.proofs.Turns.{one_item, bad_item, bad_rest}
use Rattle.osm_json.proofs.lists.ids_inside.Goals as goal

pub returns-in_err-number-clause-value : goal.returns-in_err-number-clause-value
returns-in_err-number-clause-value c =
    let l = c.loop-reader in
    let going = c.loop-reader-test.ensures in
    at_exit _ _ _ _ _ c.in_err-number.field-0.0 c.from_residual.ensures.1
    (by_part c.in_err-number.field-0.0 _ _ c.in_err-number.ensures.value (λ e. bad_item l.invariant.1 going.0 (ap (next_data c.args.depth) (sym going.1) ∙ e)))

pub loop-reader-preserved : goal.loop-reader-preserved
loop-reader-preserved c =
    let l = c.loop-reader in
    let going = c.loop-reader-test.ensures in
    let read = c.in_ok-number.ensures.value in
    let fits : FitsSigned w64 c.in-Some.number = search rules in
    let pushed = simp to_z-of_z at c.in_ok-push-in-Some.ensures.items in (
      l.invariant.0 ++ read.source ∷ [],
      one_item l.invariant.1 _ read.source going.0 (ap (next_data c.args.depth) (sym going.1) ∙ read.begins),
      rw pushed (one_read l.invariant.2 read.source c.in-Some.number (read.reads ∙ c.in-Some.is)),
    )

pub returns-in_err-pass_items-in-None-clause-value : goal.returns-in_err-pass_items-in-None-clause-value
returns-in_err-pass_items-in-None-clause-value c =
    let l = c.loop-reader in
    let going = c.loop-reader-test.ensures in
    let read = c.in_ok-number.ensures.value in
    at_exit _ _ _ _ _ c.in_err-pass_items-in-None.field-0.0 c.from_residual-in_err-pass_items-in-None.ensures.1
    (by_part c.in_err-pass_items-in-None.field-0.0 _ _ c.in_err-pass_items-in-None.ensures.value
    (λ e. bad_rest (one_item l.invariant.1 _ read.source going.0 (ap (next_data c.args.depth) (sym going.1) ∙ read.begins)) e))

pub returns-in-None-clause-value : goal.returns-in-None-clause-value
returns-in-None-clause-value c =
    let l = c.loop-reader in
    let going = c.loop-reader-test.ensures in
    let read = c.in_ok-number.ensures.value in
    let passed = c.in_ok-pass_items-in-None.ensures.value in
    list_malformed l.invariant.2 l.invariant.1 read.source _ passed.source _ going.0 (ap (next_data c.args.depth) (sym going.1) ∙ read.begins) (read.reads ∙ c.in-None.is) passed.begins

pub returns-clause-value : goal.returns-clause-value
returns-clause-value c = rw c.of.ensures (list_read c.loop-reader.invariant.2 c.loop-reader.invariant.1 _ c.loop-reader-test.ensures)
