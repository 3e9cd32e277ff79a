use Rattle.std.proofs.Common.{arith}
use Rattle.std.proofs.lemmas.Int.{ints, clamps, to_z-of_z}
use Rattle.osm_base.proofs.places.Box7.join.Goals as goal

pub invariant_of-result : goal.invariant_of-result
invariant_of-result c = record {
  first = record { south = omega (arith, ints, clamps); north = omega (arith, ints, clamps); west = omega (arith, ints, clamps); east = omega (arith, ints, clamps) };
  last = record { south = omega (arith, ints, clamps); north = omega (arith, ints, clamps); west = omega (arith, ints, clamps); east = omega (arith, ints, clamps) };
  across = omega (arith, ints, clamps);
  up = omega (arith, ints, clamps);
}

pub returns : goal.returns
returns c = grind (arith, to_z-of_z)
