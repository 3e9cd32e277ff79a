use Rattle.std.proofs.Common.{codes, option_map, None}
use Rattle.serde_json.specs.Find.{get, as_object, as_str}
use Rattle.osm_json.specs.Found.{text_in}
use Rattle.osm_json.proofs.Documents.{no_title}
use Rattle.osm_json.proofs.Entered.{object_pulled, not_of_kind}
use Rattle.osm_json.proofs.title.title_value.Goals as goal

pub returns-in-None : goal.returns-in-None
returns-in-None c = not_of_kind as_object (λ d. option_map as_str (get (codes "title") d)) None _ _ no_title (rw c.in-None.is at c.in_ok-within.ensures.value)

pub returns-in-Some : goal.returns-in-Some
returns-in-Some c =
    let e = rw c.in-Some.is at c.in_ok-within.ensures.value in
    object_pulled (λ o. option_map text_in o) (λ d. option_map as_str (get (codes "title") d)) _ _ c.in-Some.within _ _ _ e.0 e.1 c.title_members.ensures.value
