use Rattle.serde_json.specs.Find.{as_array}
use Rattle.std.proofs.Common.{true}
use Rattle.osm_json.specs.Walked.{sight, walk_all, walk_list}
use Rattle.osm_json.proofs.Entered.{array_pulls, array_refused}
use Rattle.osm_json.proofs.Objects.{pulls_map}
use Rattle.osm_json.proofs.Refused.{at_exit}
use Rattle.osm_json.proofs.blocks.list.Goals as goal

pub returns-in_err-elements-in-Some-clause-value : goal.returns-in_err-elements-in-Some-clause-value
returns-in_err-elements-in-Some-clause-value c =
    let e = rw c.in-Some.is at c.in_ok-within.ensures.value in
    at_exit _ _ _ _ _ c.in_err-elements-in-Some.field-0.0 c.from_residual-in_err-elements-in-Some.ensures.1 (array_refused _ c.in-Some.within _ _ _ e.0 e.1 c.in_err-elements-in-Some.ensures.value)

pub returns-in_ok-elements-in-Some-clause-value : goal.returns-in_ok-elements-in-Some-clause-value
returns-in_ok-elements-in-Some-clause-value c =
    let e = rw c.in-Some.is at c.in_ok-within.ensures.value in
    array_pulls (λ d. walk_list c.args.action (sight c.args.progress.now) (as_array d)) _ _ c.in-Some.within _ _ _ e.0 e.1
    (pulls_map (λ s. (true, s)) (λ ds. walk_all c.args.action ds (sight c.args.progress.now)) _ _ _ c.in_ok-elements-in-Some.ensures.value)
