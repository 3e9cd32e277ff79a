-- What the tests on edges tell.
use Rattle.std.proofs.Common.{◌≡◌, true, false, ℤ, pos, negsuc, ◌≤ℤ◌, arith}
use Rattle.std.proofs.lemmas.Int.{ints}
use Rattle.std.specs.Prelude.{int_le, int_lt}
use Rattle.std.proofs.lemmas.Bool.{and_parts}
use Rattle.osm_base.specs.Place.{IsPosition, IsArea, is_position, is_within}

int_le-holds : (a b : ℤ) → int_le a b ≡ true → a ≤ℤ b
int_le-holds a b e = grind (arith, ints)

pub int_lt-fails : (a b : ℤ) → int_lt b a ≡ false → a ≤ℤ b
int_lt-fails a b e = grind (arith, ints)

pub is_position-holds : (lat7 lon7 : ℤ) → is_position lat7 lon7 ≡ true → IsPosition lat7 lon7
is_position-holds lat7 lon7 e =
    let both = and_parts (is_within (negsuc 899999999) lat7 (pos 900000000)) (is_within (negsuc 1799999999) lon7 (pos 1800000000)) e in
    let lat = and_parts (int_le (negsuc 899999999) lat7) (int_le lat7 (pos 900000000)) both.0 in
    let lon = and_parts (int_le (negsuc 1799999999) lon7) (int_le lon7 (pos 1800000000)) both.1 in
    record {
      south = int_le-holds (negsuc 899999999) lat7 lat.0;
      north = int_le-holds lat7 (pos 900000000) lat.1;
      west = int_le-holds (negsuc 1799999999) lon7 lon.0;
      east = int_le-holds lon7 (pos 1800000000) lon.1;
    }

pub is_area-holds : (left bottom right top : ℤ) → is_position bottom left ≡ true → is_position top right ≡ true → int_lt right left ≡ false → int_lt top bottom ≡ false → IsArea left bottom right top
is_area-holds left bottom right top first last across up = record {
  first = is_position-holds bottom left first;
  last = is_position-holds top right last;
  across = int_lt-fails left right across;
  up = int_lt-fails bottom top up;
}
