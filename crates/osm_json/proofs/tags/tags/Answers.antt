use Rattle.std.proofs.Common.{ap, subst}
use Rattle.osm_json.specs.Entries.{text_pairs}
use Rattle.osm_json.specs.Found.{Makes}
use Rattle.osm_json.specs.Reading.{pairs_of, tags_of}
use Rattle.osm_json.proofs.Entered.{object_pulled, object_refused}
use Rattle.osm_json.proofs.Objects.{makes_pulled}
use Rattle.osm_json.proofs.Refused.{at_exit}
use Rattle.osm_json.proofs.tags.tags.Goals as goal

pub returns-in_err-entries-in-Some-clause-value : goal.returns-in_err-entries-in-Some-clause-value
returns-in_err-entries-in-Some-clause-value c =
    let e = rw c.in-Some.is at c.in_ok-within.ensures.value in
    at_exit _ _ _ _ _ c.in_err-entries-in-Some.field-0.0 c.from_residual-in_err-entries-in-Some.ensures.1 (object_refused _ c.in-Some.within _ _ _ e.0 e.1 c.in_err-entries-in-Some.ensures.value)

pub returns-in_ok-found-in-Some-clause-value : goal.returns-in_ok-found-in-Some-clause-value
returns-in_ok-found-in-Some-clause-value c =
    let e = rw c.in-Some.is at c.in_ok-within.ensures.value in
    let read = c.in_ok-entries-in-Some.ensures.value in
    let made = subst (Makes (λ x. x) c.tags_from.result) (ap text_pairs c.in_ok-found-in-Some.ensures.same) c.tags_from.ensures in
    object_pulled (λ x. x) tags_of _ _ c.in-Some.within _ _ _ e.0 e.1 (makes_pulled (λ x. x) pairs_of (λ p. p) _ _ _ _ read made)
