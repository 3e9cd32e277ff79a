-- A node that is within the limits has a position on the globe.
use Rattle.std.proofs.Common.{◌≡◌, Bool, true, false, cond, List, Result, Ok, Err, refl}
use Rattle.osm_base.specs.Outcome.{◌>>=◌}
use Rattle.osm_base.specs.Place.{is_position}
use Rattle.osm_element.specs.Tags.{Tag}
use Rattle.osm_element.specs.Limits.{check_tags, check_content, check_parts}
use Rattle.osm_element.specs.declared.contents.RawContent.{RawContent}
use Rattle.osm_element.specs.declared.contents.RawContent.TheVariants.{Node, Way, Relation}
use Rattle.osm_element.specs.declared.faults.LocalFault.{LocalFault}
use Rattle.osm_element.specs.declared.faults.LocalFault.TheVariants.{Position}
use Rattle.osm_change.specs.Build.{IsPlaced}

then-ok : (first next : Result (Unit {0}) LocalFault) → (first >>= (λ done. next)) ≡ Ok tt → next ≡ Ok tt
then-ok (Ok done) next e = e
then-ok (Err fault) next e = absurd (cc)

on-globe : (b : Bool) → ◌≡◌ {A = Result (Unit {0}) LocalFault} (cond b (Ok tt) (Err Position)) (Ok tt) → b ≡ true
on-globe true e = refl
on-globe false e = absurd (cc)

pub checked-placed : (tags : List Tag) (content : RawContent) → check_parts tags content ≡ Ok tt → IsPlaced content
checked-placed tags (Node lat7 lon7) e = on-globe (is_position lat7 lon7) (then-ok (check_tags tags) (check_content (Node lat7 lon7)) e)
checked-placed tags (Way nodes) e = tt
checked-placed tags (Relation members) e = tt
