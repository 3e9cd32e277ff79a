use Rattle.std.proofs.Common.{◌≡◌}
use Rattle.std.specs.Prelude.{⊤}
use Rattle.std.proofs.lemmas.Int.{to_z-of_z}
use Rattle.std.proofs.lemmas.Option.{MatchOption-at_some}
use Rattle.osm_base.specs.Place.{Position}
use Rattle.notes_desk.proofs.Positions.{position-fits, position_at}
use Rattle.notes_desk.proofs.bodies.position.Goals as goal

pub returns : goal.returns
returns c =
    let wide-lat = c.ranges.lat7 in
    let wide-lon = c.ranges.lon7 in
    let fits = position-fits c.args.lat7 c.args.lon7 c.requires in
    let lat = fits.0 in
    let lon = fits.1 in
    let value = simp to_z-of_z at c.new.ensures.value in
    MatchOption-at_some ⊤ (λ (made : Position). made ≡ position_at c.args.lat7 c.args.lon7) c.unwrap.result c.unwrap.ensures value
