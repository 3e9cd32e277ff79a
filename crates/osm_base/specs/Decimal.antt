-- Decimal numbers of degrees, and boxes of four of them (OpenStreetMap wiki, API v0.6, "Bounding box").
use Rattle.std.specs.Prelude.{ℕ, ◌+◌, Bool, true, false, ◌==◌, ◌&&◌, ◌||◌, min, nat_lt, if◌then◌else◌, List, [], ◌∷◌, ◌++◌, length, take, drop, codes, ℤ, pos, neg_ℤ, Option, Some, None, Result, Err}
use Rattle.std.specs.List.{list_all, before_first, after_first}
use Rattle.std.specs.Char.{is_ascii_digit}
use Rattle.std.specs.Str.Parse.{digits_value}
use Rattle.osm_base.specs.declared.box_faults.BoxFault.{BoxFault}
use Rattle.osm_base.specs.declared.box_faults.BoxFault.TheVariants.{NotFour, NotDecimal}
use Rattle.osm_base.specs.declared.decimals.TheConstants.{UNIT_CAP}
use Rattle.osm_base.specs.Parts.{is_byte, parts_of}
use Rattle.osm_base.specs.Place.{Area, area_between}

abbrev pub comma : ℕ
comma = 44

abbrev pub is_point : ℕ → Bool
is_point = is_byte 46

-- ---- one number

abbrev pub is_negative : List ℕ → Bool
is_negative [] = false
is_negative (first ∷ rest) = first == 45

-- the number behind its sign, where it has one
abbrev pub without_sign : List ℕ → List ℕ
without_sign [] = []
without_sign (first ∷ rest) = if first == 43 || first == 45 then rest else first ∷ rest

-- digits with at most one point, with a digit at least
abbrev pub is_unsigned : List ℕ → Bool
is_unsigned number =
    nat_lt 0 (length (before_first is_point number) + length (after_first is_point number))
    && list_all is_ascii_digit (before_first is_point number)
    && list_all is_ascii_digit (after_first is_point number)

-- seven digits behind the point: further ones are cut off, and a zero stands for each that is missing
abbrev pub seven_places : List ℕ → List ℕ
seven_places fraction = take 7 fraction ++ drop (length fraction) (codes "0000000")

-- how many units of 1e-7 degrees the digits around a point are
abbrev pub units_of : List ℕ → List ℕ → ℕ
units_of whole fraction = digits_value 10 (whole ++ seven_places fraction)

abbrev pub magnitude : List ℕ → ℕ
magnitude number = units_of (before_first is_point number) (after_first is_point number)

abbrev pub signed : Bool → ℕ → ℤ
signed true n = neg_ℤ (pos n)
signed false n = pos n

-- the number that a text gives, in units of 1e-7 degrees
abbrev pub decimal_of : List ℕ → Option ℤ
decimal_of text =
    if is_unsigned (without_sign text) then Some (signed (is_negative text) (magnitude (without_sign text))) else None

-- ---- four of them

abbrev pub area_of_edges : Option ℤ → Option ℤ → Option ℤ → Option ℤ → Result Area BoxFault
area_of_edges (Some left) (Some bottom) (Some right) (Some top) = area_between left bottom right top
area_of_edges _ _ _ _ = Err NotDecimal

abbrev pub area_of_parts : List (List ℕ) → Result Area BoxFault
area_of_parts (left ∷ bottom ∷ right ∷ top ∷ []) =
    area_of_edges (decimal_of left) (decimal_of bottom) (decimal_of right) (decimal_of top)
area_of_parts _ = Err NotFour

-- the box that a text gives: left, bottom, right, top
unfoldable pub area_of : List ℕ → Result Area BoxFault
area_of text = area_of_parts (parts_of comma text)

-- ---- for private clauses

-- the same number, but no further from 0 than the cap
abbrev pub capped_decimal : List ℕ → Option ℤ
capped_decimal text =
    if is_unsigned (without_sign text) then Some (signed (is_negative text) (min (magnitude (without_sign text)) UNIT_CAP))
    else None

pub record FourParts : Type 0 where
  pub left : List ℕ
  pub bottom : List ℕ
  pub right : List ℕ
  pub top : List ℕ

abbrev pub four_of : List (List ℕ) → Option FourParts
four_of (left ∷ bottom ∷ right ∷ top ∷ []) = Some (record { left = left; bottom = bottom; right = right; top = top })
four_of _ = None
