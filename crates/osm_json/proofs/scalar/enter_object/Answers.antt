use Rattle.std.proofs.Common.{◌∷◌, ap, ◌∙◌}
use Rattle.json.specs.Reads.{token_of}
use Rattle.osm_json.specs.declared.fault.ReadFault.TheVariants.{NotJson}
use Rattle.osm_json.specs.Pull.{next_data}
use Rattle.osm_json.proofs.Firsts.{none_next, object_too_deep, no_object}
use Rattle.osm_json.proofs.Refused.{by_part, at_enter}
use Rattle.osm_json.proofs.scalar.enter_object.Goals as goal

pub returns-in_err-first-clause-value : goal.returns-in_err-first-clause-value
returns-in_err-first-clause-value c =
    at_enter _ _ _ _ _ _ NotJson c.from_residual.ensures.1 (ap (next_data c.args.depth) c.in_err-first.ensures ∙ none_next c.args.depth)

pub returns-then-depth-eq0-clause-value : goal.returns-then-depth-eq0-clause-value
returns-then-depth-eq0-clause-value c =
    ap (next_data c.args.depth) (c.in_ok-first.ensures ∙ ap (λ k. token_of k ∷ c.first_token.new.reader) c.in-BeginObject.is) ∙ object_too_deep c.args.depth c.first_token.new.reader c.if-depth-eq0.true

pub returns-in_err-pass_rest-in_default-clause-value : goal.returns-in_err-pass_rest-in_default-clause-value
returns-in_err-pass_rest-in_default-clause-value c =
    at_enter _ _ _ _ _ _ c.in_err-pass_rest-in_default.field-0.0 c.from_residual-in_err-pass_rest-in_default.ensures.1
    (by_part c.in_err-pass_rest-in_default.field-0.0 _ _ c.in_err-pass_rest-in_default.ensures.value (λ e. ap (next_data c.args.depth) c.in_ok-first.ensures ∙ e))

pub returns-in_ok-pass_rest-in_default-clause-value : goal.returns-in_ok-pass_rest-in_default-clause-value
returns-in_ok-pass_rest-in_default-clause-value c =
    let passed = c.in_ok-pass_rest-in_default.ensures.value in
    record {
      source = passed.source;
      begins = ap (next_data c.args.depth) c.in_ok-first.ensures ∙ passed.begins;
      reads = no_object c.args.depth c.in_ok-first.first c.first_token.new.reader passed.source _ c.in_default.not-BeginObject passed.begins;
    }
