-- Worked texts of boxes.
use Rattle.std.proofs.Common.{◌≡◌, ℤ, pos, negsuc, Ok, Err, codes, refl}
use Rattle.osm_base.specs.Place.{Area}
use Rattle.osm_base.specs.Decimal.{area_of}
use Rattle.osm_base.specs.declared.box_faults.BoxFault.TheVariants.{NotFour, NotDecimal, OutOfRange, Crossed}

abbrev area : ℤ → ℤ → ℤ → ℤ → Area
area left bottom right top = record { left = left; bottom = bottom; right = right; top = top }

munich : area_of (codes "11.5,48,11.6,48.1") ≡ Ok (area (pos 115000000) (pos 480000000) (pos 116000000) (pos 481000000))
unfolding area_of
munich = refl

three_parts : area_of (codes "1,2,3") ≡ Err NotFour
unfolding area_of
three_parts = refl

five_parts : area_of (codes "1,2,3,4,5") ≡ Err NotFour
unfolding area_of
five_parts = refl

a_letter : area_of (codes "1,2,x,4") ≡ Err NotDecimal
unfolding area_of
a_letter = refl

an_exponent : area_of (codes "1,2,1e1,4") ≡ Err NotDecimal
unfolding area_of
an_exponent = refl

two_points : area_of (codes "1,2,1.1.1,4") ≡ Err NotDecimal
unfolding area_of
two_points = refl

no_digit : area_of (codes "1,2,-.,4") ≡ Err NotDecimal
unfolding area_of
no_digit = refl

two_signs : area_of (codes "1,2,+-3,4") ≡ Err NotDecimal
unfolding area_of
two_signs = refl

beyond : area_of (codes "-181,0,0,0") ≡ Err OutOfRange
unfolding area_of
beyond = refl

crossed : area_of (codes "2,0,1,0") ≡ Err Crossed
unfolding area_of
crossed = refl

-- the lowest fault counts, wherever it stands
letter_before_range : area_of (codes "181,0,0,x") ≡ Err NotDecimal
unfolding area_of
letter_before_range = refl

range_before_crossed : area_of (codes "2,0,1,91") ≡ Err OutOfRange
unfolding area_of
range_before_crossed = refl

huge : area_of (codes "99999999999999999999999999,0,1,0") ≡ Err OutOfRange
unfolding area_of
huge = refl

forms : area_of (codes "0.123456789,.5,1.,+1") ≡ Ok (area (pos 1234567) (pos 5000000) (pos 10000000) (pos 10000000))
unfolding area_of
forms = refl

-- what stands past the seventh digit is cut off, on both sides of 0
cut_off : area_of (codes "-0.00000019,0,180.00000009,0") ≡ Ok (area (negsuc 0) (pos 0) (pos 1800000000) (pos 0))
unfolding area_of
cut_off = refl

edges : area_of (codes "-180,-90,180.0000000,090") ≡ Ok (area (negsuc 1799999999) (negsuc 899999999) (pos 1800000000) (pos 900000000))
unfolding area_of
edges = refl
