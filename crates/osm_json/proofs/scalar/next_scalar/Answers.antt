use Rattle.std.proofs.Common.{◌∷◌, refl, sym, ap, ◌∙◌}
use Rattle.json.specs.Reads.{token_of}
use Rattle.serde_json.specs.Data.{null, boolean, number, string}
use Rattle.osm_json.specs.declared.fault.ReadFault.TheVariants.{NotJson}
use Rattle.osm_json.specs.Pull.{next_data}
use Rattle.osm_json.specs.Scalars.{figure_view}
use Rattle.osm_json.proofs.Firsts.{none_next, null_next, boolean_next, string_next, number_next, number_refused, end_refused, array_found, object_found}
use Rattle.osm_json.proofs.Refused.{by_part, at_exit}
use Rattle.osm_json.proofs.scalar.next_scalar.Goals as goal

pub returns-in_err-first-clause-value : goal.returns-in_err-first-clause-value
returns-in_err-first-clause-value c =
    at_exit _ _ _ _ _ NotJson c.from_residual.ensures.1 (ap (next_data c.args.depth) c.in_err-first.ensures ∙ none_next c.args.depth)

pub returns-in-Null-clause-value : goal.returns-in-Null-clause-value
returns-in-Null-clause-value c =
    record {
      source = null;
      begins = ap (next_data c.args.depth) (c.in_ok-first.ensures ∙ ap (λ k. token_of k ∷ c.first_token.new.reader) c.in-Null.is) ∙ null_next c.args.depth c.first_token.new.reader;
      reads = refl;
    }

pub returns-in-Bool-clause-value : goal.returns-in-Bool-clause-value
returns-in-Bool-clause-value c =
    record {
      source = boolean c.in-Bool.flag;
      begins = ap (next_data c.args.depth) (c.in_ok-first.ensures ∙ ap (λ k. token_of k ∷ c.first_token.new.reader) c.in-Bool.is) ∙ boolean_next c.args.depth c.first_token.new.reader c.in-Bool.flag;
      reads = refl;
    }

pub returns-in-String-clause-value : goal.returns-in-String-clause-value
returns-in-String-clause-value c =
    record {
      source = string c.in-String.text.now;
      begins = ap (next_data c.args.depth) (c.in_ok-first.ensures ∙ ap (λ k. token_of k ∷ c.first_token.new.reader) c.in-String.is) ∙ string_next c.args.depth c.first_token.new.reader c.in-String.text.now;
      reads = refl;
    }

pub returns-in-Some-clause-value : goal.returns-in-Some-clause-value
returns-in-Some-clause-value c =
    record {
      source = number (figure_view c.in-Some.figure);
      begins = ap (next_data c.args.depth) (c.in_ok-first.ensures ∙ ap (λ k. token_of k ∷ c.first_token.new.reader) c.in-Number.is) ∙ number_next c.args.depth c.first_token.new.reader c.in-Number.text.now (figure_view c.in-Some.figure) (sym c.in-Some.ensures);
      reads = refl;
    }

pub returns-in-None-clause-value : goal.returns-in-None-clause-value
returns-in-None-clause-value c =
    ap (next_data c.args.depth) (c.in_ok-first.ensures ∙ ap (λ k. token_of k ∷ c.first_token.new.reader) c.in-Number.is) ∙ number_refused c.args.depth c.first_token.new.reader c.in-Number.text.now (sym c.in-None.ensures)

pub returns-in-EndObject-clause-value : goal.returns-in-EndObject-clause-value
returns-in-EndObject-clause-value c =
    ap (next_data c.args.depth) c.in_ok-first.ensures ∙ end_refused c.args.depth c.first_token.new.reader c.in_ok-first.first c.in-EndObject.is

pub returns-in_ok-pass_rest-in-BeginArray-clause-value : goal.returns-in_ok-pass_rest-in-BeginArray-clause-value
returns-in_ok-pass_rest-in-BeginArray-clause-value c =
    let passed = c.in_ok-pass_rest-in-BeginArray.ensures.value in
    record {
      source = passed.source;
      begins = ap (next_data c.args.depth) (c.in_ok-first.ensures ∙ ap (λ k. token_of k ∷ c.first_token.new.reader) c.in-BeginArray.is) ∙ passed.begins;
      reads = (array_found c.args.depth c.first_token.new.reader passed.source _ passed.begins).0;
    }

pub returns-in_err-pass_rest-in-BeginArray-clause-value : goal.returns-in_err-pass_rest-in-BeginArray-clause-value
returns-in_err-pass_rest-in-BeginArray-clause-value c =
    at_exit _ _ _ _ _ c.in_err-pass_rest-in-BeginArray.field-0.0 c.from_residual-in_err-pass_rest-in-BeginArray.ensures.1
    (by_part c.in_err-pass_rest-in-BeginArray.field-0.0 _ _ c.in_err-pass_rest-in-BeginArray.ensures.value (λ e. ap (next_data c.args.depth) (c.in_ok-first.ensures ∙ ap (λ k. token_of k ∷ c.first_token.new.reader) c.in-BeginArray.is) ∙ e))

pub returns-in_ok-pass_rest-in-BeginObject-clause-value : goal.returns-in_ok-pass_rest-in-BeginObject-clause-value
returns-in_ok-pass_rest-in-BeginObject-clause-value c =
    let passed = c.in_ok-pass_rest-in-BeginObject.ensures.value in
    record {
      source = passed.source;
      begins = ap (next_data c.args.depth) (c.in_ok-first.ensures ∙ ap (λ k. token_of k ∷ c.first_token.new.reader) c.in-BeginObject.is) ∙ passed.begins;
      reads = (object_found c.args.depth c.first_token.new.reader passed.source _ passed.begins).0;
    }

pub returns-in_err-pass_rest-in-BeginObject-clause-value : goal.returns-in_err-pass_rest-in-BeginObject-clause-value
returns-in_err-pass_rest-in-BeginObject-clause-value c =
    at_exit _ _ _ _ _ c.in_err-pass_rest-in-BeginObject.field-0.0 c.from_residual-in_err-pass_rest-in-BeginObject.ensures.1
    (by_part c.in_err-pass_rest-in-BeginObject.field-0.0 _ _ c.in_err-pass_rest-in-BeginObject.ensures.value (λ e. ap (next_data c.args.depth) (c.in_ok-first.ensures ∙ ap (λ k. token_of k ∷ c.first_token.new.reader) c.in-BeginObject.is) ∙ e))
