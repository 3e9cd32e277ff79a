use Rattle.std.proofs.Common.{None}
use Rattle.serde_json.specs.Data.{object}
use Rattle.serde_json.specs.Find.{as_object}
use Rattle.osm_json.specs.Reading.{reference_of}
use Rattle.osm_json.specs.Found.{parts_view, parts_of, reference_in}
use Rattle.osm_json.proofs.Entered.{object_pulled, object_refused, not_of_kind}
use Rattle.osm_json.proofs.Objects.{pulled_same, makes_pulled}
use Rattle.osm_json.proofs.Parts.{reference_same, reference_none}
use Rattle.osm_json.proofs.Refused.{at_exit}
use Rattle.osm_json.proofs.lists.reference.Goals as goal

pub returns-in_err-found-in-Some-clause-value : goal.returns-in_err-found-in-Some-clause-value
returns-in_err-found-in-Some-clause-value c =
    let e = rw c.in-Some.is at c.in_ok-within.ensures.value in
    at_exit _ _ _ _ _ c.in_err-found-in-Some.field-0.0 c.from_residual-in_err-found-in-Some.ensures.1 (object_refused _ c.in-Some.within _ _ _ e.0 e.1 c.in_err-found-in-Some.ensures.value)

pub returns-in_ok-found-in-Some-clause-value : goal.returns-in_ok-found-in-Some-clause-value
returns-in_ok-found-in-Some-clause-value c =
    let e = rw c.in-Some.is at c.in_ok-within.ensures.value in
    object_pulled (λ x. x) reference_of _ _ c.in-Some.within _ _ _ e.0 e.1
    (pulled_same (λ x. x) (λ ms. reference_in (parts_of ms)) (λ ms. reference_of (object ms)) _ _ _ reference_same
    (makes_pulled (λ x. x) parts_of reference_in (parts_view c.in_ok-found-in-Some.found) _ _ _ c.in_ok-found-in-Some.ensures.value c.reference_from.ensures))

pub returns-in-None-clause-value : goal.returns-in-None-clause-value
returns-in-None-clause-value c = not_of_kind as_object reference_of None _ _ reference_none (rw c.in-None.is at c.in_ok-within.ensures.value)
