use Rattle.std.proofs.Common.{Some, None, option_map, ap}
use Rattle.serde_json.specs.Find.{as_object}
use Rattle.osm_json.specs.Found.{fields_of}
use Rattle.osm_json.proofs.Entered.{object_pulls, object_refused, not_of_kind}
use Rattle.osm_json.proofs.Objects.{pulls_map}
use Rattle.osm_json.proofs.Refused.{at_exit}
use Rattle.osm_json.proofs.single.object.Goals as goal

pub returns-in_err-found-in-Some : goal.returns-in_err-found-in-Some
returns-in_err-found-in-Some c =
    let e = rw c.in-Some.is at c.in_ok-within.ensures.value in
    at_exit _ _ _ _ _ c.in_err-found-in-Some.field-0.0 c.from_residual-in_err-found-in-Some.ensures.1 (object_refused _ c.in-Some.within _ _ _ e.0 e.1 c.in_err-found-in-Some.ensures.value)

pub returns-in_ok-found-in-Some : goal.returns-in_ok-found-in-Some
returns-in_ok-found-in-Some c =
    let e = rw c.in-Some.is at c.in_ok-within.ensures.value in
    object_pulls (λ d. option_map fields_of (as_object d)) _ _ c.in-Some.within _ _ _ e.0 e.1 (pulls_map Some fields_of c.in_ok-found-in-Some.found _ _ c.in_ok-found-in-Some.ensures.value)

pub returns-in-None : goal.returns-in-None
returns-in-None c = not_of_kind as_object (λ d. option_map fields_of (as_object d)) None _ _ (λ d e. ap (option_map fields_of) e) (rw c.in-None.is at c.in_ok-within.ensures.value)
