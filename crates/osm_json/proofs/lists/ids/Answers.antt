use Rattle.std.proofs.Common.{None, ap}
use Rattle.serde_json.specs.Find.{as_array}
use Rattle.osm_json.specs.Reading.{◌>>=◌, id_of, each_of, list_of}
use Rattle.osm_json.proofs.Entered.{array_pulled, not_of_kind}
use Rattle.osm_json.proofs.lists.ids.Goals as goal

pub returns-in-None-clause-value : goal.returns-in-None-clause-value
returns-in-None-clause-value c =
    not_of_kind as_array (list_of id_of) None _ _ (λ d e. ap (λ o. o >>= each_of id_of) e) (rw c.in-None.is at c.in_ok-within.ensures.value)

pub returns-in-Some-clause-value : goal.returns-in-Some-clause-value
returns-in-Some-clause-value c =
    let e = rw c.in-Some.is at c.in_ok-within.ensures.value in
    array_pulled (λ x. x) (list_of id_of) _ _ c.in-Some.within _ _ _ e.0 e.1 c.ids_inside.ensures.value
