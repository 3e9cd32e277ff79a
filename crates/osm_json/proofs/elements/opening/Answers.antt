use Rattle.std.proofs.Common.{FitsSigned, w32, rules}
use Rattle.std.proofs.lemmas.Int.{to_z-of_z}
use Rattle.osm_json.proofs.Growing.{◌⨾◌, becomes, opening_is}
use Rattle.osm_json.proofs.elements.opening.Goals as goal

pub returns-in_ok-piece-in-None : goal.returns-in_ok-piece-in-None
returns-in_ok-piece-in-None c = rw c.in-None.is c.in_ok-piece-in-None.ensures

pub returns-in_ok-piece-in-Some : goal.returns-in_ok-piece-in-Some
returns-in_ok-piece-in-Some c =
    let edges = c.edges-left.result in
    let told = c.edges-left.ensures in
    let fits_left : FitsSigned w32 edges.0 = search rules in
    let fits_bottom : FitsSigned w32 edges.1 = search rules in
    let fits_right : FitsSigned w32 edges.2 = search rules in
    let fits_top : FitsSigned w32 edges.3 = search rules in
    let top = simp told at (simp to_z-of_z at c.in_ok-integer-in-Some.ensures) in
    let right = simp told at (simp to_z-of_z at c.in_ok-integer-in-Some-2.ensures) in
    let bottom = simp told at (simp to_z-of_z at c.in_ok-integer-in-Some-3.ensures) in
    let left = simp told at (simp to_z-of_z at c.in_ok-integer-in-Some-4.ensures) in
    rw c.in-Some.is (becomes (opening_is c.in-Some.area) (top ⨾ right ⨾ bottom ⨾ left ⨾ c.in_ok-piece-in-Some.ensures))
