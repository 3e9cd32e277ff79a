use Rattle.std.proofs.Common.{◌≡◌, true, false, arith}
use Rattle.std.specs.Prelude.{int_lt}
use Rattle.std.proofs.lemmas.Int.{to_z-of_z}
use Rattle.osm_base.specs.Place.{is_position}
use Rattle.osm_base.proofs.AreaTests.{is_area-holds}
use Rattle.osm_base.proofs.places.Box7.new.Goals as goal

pub invariant_of-result : goal.invariant_of-result
invariant_of-result c =
    let left = c.ranges.left in
    let bottom = c.ranges.bottom in
    let right = c.ranges.right in
    let top = c.ranges.top in
    let first : is_position c.args.bottom c.args.left ≡ true = grind (arith, to_z-of_z) in
    let last : is_position c.args.top c.args.right ≡ true = grind (arith, to_z-of_z) in
    let across : int_lt c.args.right c.args.left ≡ false = grind (arith, to_z-of_z) in
    let up : int_lt c.args.top c.args.bottom ≡ false = grind (arith, to_z-of_z) in
    simp to_z-of_z (is_area-holds c.args.left c.args.bottom c.args.right c.args.top first last across up)
