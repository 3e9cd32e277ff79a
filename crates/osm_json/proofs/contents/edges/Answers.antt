use Rattle.std.proofs.Common.{FitsSigned, w32, rules}
use Rattle.std.proofs.lemmas.Int.{to_z-of_z}
use Rattle.osm_json.specs.Rows.{box_fields}
use Rattle.osm_json.proofs.contents.edges.Goals as goal

pub returns : goal.returns
unfolding box_fields
returns c =
    let edges = c.edges-left.result in
    let left : FitsSigned w32 edges.0 = search rules in
    let bottom : FitsSigned w32 edges.1 = search rules in
    let right : FitsSigned w32 edges.2 = search rules in
    let top : FitsSigned w32 edges.3 = search rules in
    let shown = simp (c.units.ensures, c.units-2.ensures, c.units-3.ensures, c.units-4.ensures) at c.members.ensures in
    rw c.edges-left.ensures at (simp to_z-of_z at shown)
