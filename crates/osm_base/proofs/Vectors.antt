-- Worked boxes and stamps.
use Rattle.std.proofs.Common.{◌≡◌, ℤ, pos, negsuc, Ok, Err, refl}
use Rattle.osm_base.specs.Place.{Area, area_between, square_units}
use Rattle.osm_base.specs.Stamp.{stamp_after}
use Rattle.osm_base.specs.declared.box_faults.BoxFault.TheVariants.{OutOfRange, Crossed}

abbrev area : ℤ → ℤ → ℤ → ℤ → Area
area left bottom right top = record { left = left; bottom = bottom; right = right; top = top }

munich : area_between (pos 115000000) (pos 480000000) (pos 116000000) (pos 481000000) ≡ Ok (area (pos 115000000) (pos 480000000) (pos 116000000) (pos 481000000))
munich = refl

munich-area : square_units (area (pos 115000000) (pos 480000000) (pos 116000000) (pos 481000000)) ≡ 1000000000000
munich-area = refl

beyond : area_between (negsuc 1809999999) (pos 0) (pos 0) (pos 0) ≡ Err OutOfRange
beyond = refl

crossed : area_between (pos 20000000) (pos 0) (pos 10000000) (pos 0) ≡ Err Crossed
crossed = refl

line : area_between (negsuc 0) (pos 0) (pos 1800000000) (pos 0) ≡ Ok (area (negsuc 0) (pos 0) (pos 1800000000) (pos 0))
line = refl

line-area : square_units (area (negsuc 0) (pos 0) (pos 1800000000) (pos 0)) ≡ 0
line-area = refl

earlier : stamp_after 5 3 ≡ 5
earlier = refl

latest : stamp_after 5 18446744073709551615 ≡ 253000000000
latest = refl
