use Rattle.std.proofs.Common.{FitsSigned, w32, rules, codes}
use Rattle.std.proofs.lemmas.Int.{to_z-of_z}
use Rattle.osm_json.specs.Rows.{content_fields}
use Rattle.osm_json.specs.Shown.{field, integer}
use Rattle.osm_json.proofs.Growing.{◌⨾◌, becomes, lat7_is, lon7_is, two_fields}
use Rattle.osm_json.proofs.rows.position.Goals as goal

pub returns : goal.returns
unfolding content_fields
returns c =
    let lat7 : FitsSigned w32 c.lat7.result = search rules in
    let lon7 : FitsSigned w32 c.lon7.result = search rules in
    let first = becomes (lat7_is _) (simp c.lat7.ensures at (simp to_z-of_z at c.in_ok-integer.ensures)) in
    let second = becomes (lon7_is _) (simp c.lon7.ensures at (simp to_z-of_z at c.in_ok-integer-2.ensures)) in
    becomes (two_fields (field (codes "lat7") (integer c.args.at.lat7)) (field (codes "lon7") (integer c.args.at.lon7))) (first ⨾ second)
