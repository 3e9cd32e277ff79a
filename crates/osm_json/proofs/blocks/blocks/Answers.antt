use Rattle.std.proofs.Common.{option_map}
use Rattle.serde_json.specs.Find.{as_array}
use Rattle.osm_json.specs.Walked.{sight, walk_value}
use Rattle.osm_json.proofs.Entered.{array_pulled}
use Rattle.osm_json.proofs.blocks.blocks.Goals as goal

pub returns-in-Some-clause-value : goal.returns-in-Some-clause-value
returns-in-Some-clause-value c =
    let e = rw c.in-Some.is at c.in_ok-within.ensures.value in
    array_pulled (λ o. option_map sight o) (λ d. walk_value (as_array d)) _ _ c.in-Some.within _ _ _ e.0 e.1 c.blocks_inside.ensures.value
