-- A position on the globe fits 32 bits.
use Rattle.std.proofs.Common.{◌≡◌, ℕ, suc, ◌<◌, ◌≤◌, true, ℤ, pos, negsuc, arith, w32}
use Rattle.std.specs.Prelude.{int_le}
use mir.Val.{SFits}
use Rattle.std.proofs.lemmas.Bool.{and_parts, leb-true}
use Rattle.osm_base.specs.Place.{Position, is_position, is_within}

-- within a bound of 31 bits on both sides
fits-within : (bound : ℕ) → bound < 2147483647 → (z : ℤ) → int_le (negsuc bound) z ≡ true → int_le z (pos (suc bound)) ≡ true → SFits w32 z
fits-within bound small (pos n) l h = record { sfits = let le : n ≤ suc bound = leb-true n (suc bound) h in omega arith }
fits-within bound small (negsuc n) l h = record { sfits = let le : n ≤ bound = leb-true n bound l in omega arith }

pub position-fits : (lat7 lon7 : ℤ) → is_position lat7 lon7 ≡ true → SFits w32 lat7 × SFits w32 lon7
position-fits lat7 lon7 e =
    let both = and_parts (is_within (negsuc 899999999) lat7 (pos 900000000)) (is_within (negsuc 1799999999) lon7 (pos 1800000000)) e in
    let lat = and_parts (int_le (negsuc 899999999) lat7) (int_le lat7 (pos 900000000)) both.0 in
    let lon = and_parts (int_le (negsuc 1799999999) lon7) (int_le lon7 (pos 1800000000)) both.1 in
    (fits-within 899999999 (omega arith) lat7 lat.0 lat.1, fits-within 1799999999 (omega arith) lon7 lon.0 lon.1)

abbrev pub position_at : ℤ → ℤ → Position
position_at lat7 lon7 = record { lat7 = lat7; lon7 = lon7 }
