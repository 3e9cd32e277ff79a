-- The cells that an area touches.
use Rattle.std.proofs.Common.{◌≡◌, ℕ, ◌≤◌, ◌/◌, ℤ, negsuc, ◌≤ℤ◌, ◌-ℤ◌, unsigned_abs, true, arith}
use Rattle.std.specs.Prelude.{nat_le, int_le}
use Rattle.std.proofs.lemmas.Bool.{and_parts, and_from}
use Rattle.std.proofs.lemmas.Bool.Decides.{nat_tests}
use Rattle.std.proofs.lemmas.Int.{ints}
use Rattle.osm_base.specs.Place.{Position, Area, IsArea, area_holds}
use Rattle.tile_grid.specs.Cell.{cell_of, is_between, touches}

-- a place and one further on
further : (low x y : ℤ) → low ≤ℤ x → x ≤ℤ y → unsigned_abs (x -ℤ low) ≤ unsigned_abs (y -ℤ low)
further low x y p q = grind (arith, ints)

cells_apart : (m n : ℕ) → m ≤ n → m / 100000 ≤ n / 100000
cells_apart m n h = omega arith

int_le-holds : (a b : ℤ) → int_le a b ≡ true → a ≤ℤ b
int_le-holds a b e = grind (arith, ints)

le-true : (m n : ℕ) → m ≤ n → nat_le m n ≡ true
le-true m n h = grind (arith, nat_tests)

amid : (low first x last : ℤ) → low ≤ℤ first → first ≤ℤ x → x ≤ℤ last → is_between (unsigned_abs (first -ℤ low) / 100000) (unsigned_abs (x -ℤ low) / 100000) (unsigned_abs (last -ℤ low) / 100000) ≡ true
amid low first x last reached after before =
    and_from _ _
    (le-true _ _ (cells_apart _ _ (further low first x reached after)))
    (le-true _ _ (cells_apart _ _ (further low x last (far low first x reached after) before)))
  where
    far : (a b c : ℤ) → a ≤ℤ b → b ≤ℤ c → a ≤ℤ c
    far a b c p q = grind (arith, ints)

pub touched : (a : Area) (p : Position) → IsArea a.left a.bottom a.right a.top → area_holds a p ≡ true → touches a (cell_of p) ≡ true
touched a p is held =
    let both = and_parts _ _ held in
    let lon = and_parts _ _ both.0 in
    let lat = and_parts _ _ both.1 in
    and_from _ _
    (amid (negsuc 899999999) a.bottom p.lat7 a.top is.first.south (int_le-holds _ _ lat.0) (int_le-holds _ _ lat.1))
    (amid (negsuc 1799999999) a.left p.lon7 a.right is.first.west (int_le-holds _ _ lon.0) (int_le-holds _ _ lon.1))
