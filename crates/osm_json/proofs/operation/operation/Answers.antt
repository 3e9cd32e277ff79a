use Rattle.std.proofs.Common.{None, sym}
use Rattle.serde_json.specs.Data.{object}
use Rattle.serde_json.specs.Find.{as_object}
use Rattle.osm_json.specs.Reading.{operation_of}
use Rattle.osm_json.specs.Found.{fields_of, operation_in}
use Rattle.osm_json.proofs.Entered.{object_pulls, object_refused, not_of_kind}
use Rattle.osm_json.proofs.Objects.{pulls_map, pulls_as}
use Rattle.osm_json.proofs.Operations.{operation_same, operation_none}
use Rattle.osm_json.proofs.Refused.{at_exit}
use Rattle.osm_json.proofs.operation.operation.Goals as goal

pub returns-in_err-found-in-Some-clause-value : goal.returns-in_err-found-in-Some-clause-value
returns-in_err-found-in-Some-clause-value c =
    let e = rw c.in-Some.is at c.in_ok-within.ensures.value in
    at_exit _ _ _ _ _ c.in_err-found-in-Some.field-0.0 c.from_residual-in_err-found-in-Some.ensures.1 (object_refused _ c.in-Some.within _ _ _ e.0 e.1 c.in_err-found-in-Some.ensures.value)

pub returns-in_ok-found-in-Some-clause-value : goal.returns-in_ok-found-in-Some-clause-value
returns-in_ok-found-in-Some-clause-value c =
    let e = rw c.in-Some.is at c.in_ok-within.ensures.value in
    let action = c.args.action in
    object_pulls (operation_of action) _ _ c.in-Some.within _ _ _ e.0 e.1
    (pulls_as (λ ms. operation_in action (fields_of ms)) (λ ms. operation_of action (object ms)) _ _ _ _ (operation_same action) (sym c.operation_from.ensures)
    (pulls_map (operation_in action) fields_of c.in_ok-found-in-Some.found _ _ c.in_ok-found-in-Some.ensures.value))

pub returns-in-None-clause-value : goal.returns-in-None-clause-value
returns-in-None-clause-value c = not_of_kind as_object (operation_of c.args.action) None _ _ (operation_none c.args.action) (rw c.in-None.is at c.in_ok-within.ensures.value)
