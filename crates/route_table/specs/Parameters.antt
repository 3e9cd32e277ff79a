-- The parameters of a query (RFC 3986, section 3.4): parts between `&`, each a name and a value around its first `=`, percent-decoded (section 2.1).
use Rattle.std.specs.Prelude.{◌≡◌, ⊤, ℕ, Bool, true, false, if◌then◌else◌, List, [], ◌∷◌, map, codes, Option, Some, None, unwrap_or, Result, Ok, Err}
use Rattle.std.specs.Option.{option_map, option_map_or}
use Rattle.std.specs.List.{find, before_first, after_first}
use Rattle.std.specs.Str.{bytes_eq}
use Rattle.percent_encoding.specs.Percent.{percent_decode}
use Rattle.osm_base.specs.Number.{number_of}
use Rattle.osm_base.specs.Parts.{is_byte, parts_of}
use Rattle.osm_base.specs.Place.{Area}
use Rattle.osm_base.specs.Decimal.{area_of, comma}
use Rattle.osm_base.specs.Outcome.{◌>>=◌}
use Rattle.osm_base.specs.declared.box_faults.BoxFault.{BoxFault}
use Rattle.route_table.specs.Targets.{query_of}
use Rattle.route_table.specs.declared.faults.RouteFault.{RouteFault}
use Rattle.route_table.specs.declared.faults.RouteFault.TheVariants.{BadParameter}
use Rattle.route_table.specs.declared.faults.RouteFault.TheVariants as fault

abbrev pub ampersand : ℕ
ampersand = 38

abbrev pub is_equals : ℕ → Bool
is_equals = is_byte 61

-- ---- by name

abbrev pub name_of : List ℕ → List ℕ
name_of part = percent_decode (before_first is_equals part)

-- empty, where the part has no `=`; a `+` stays a `+`
abbrev pub value_of : List ℕ → List ℕ
value_of part = percent_decode (after_first is_equals part)

abbrev pub is_named : List ℕ → List ℕ → Bool
is_named name part = bytes_eq (name_of part) name

-- the value of the first part with a name
abbrev pub value_in : List ℕ → List ℕ → Option (List ℕ)
value_in query name = option_map value_of (find (is_named name) (parts_of ampersand query))

abbrev pub value_if_any : Option (List ℕ) → List ℕ → Option (List ℕ)
value_if_any None name = None
value_if_any (Some query) name = value_in query name

abbrev pub parameter_of : List ℕ → List ℕ → Option (List ℕ)
parameter_of target name = value_if_any (query_of target) name

-- ---- readings of a value

abbrev pub truth_of : List ℕ → Option Bool
truth_of value =
    if bytes_eq value (codes "true") then Some true
    else if bytes_eq value (codes "false") then Some false
    else None

abbrev pub area_in : List ℕ → Option Area
area_in value = if_ok (area_of value)
  where
    if_ok : Result Area BoxFault → Option Area
    if_ok (Ok area) = Some area
    if_ok (Err e) = None

-- each of them, or none
abbrev pub each_of : List (Option ℕ) → Option (List ℕ)
each_of [] = Some []
each_of (None ∷ rest) = None
each_of (Some n ∷ rest) = option_map (λ ns. n ∷ ns) (each_of rest)

-- numbers between commas, one at least
abbrev pub ids_in : List ℕ → Option (List ℕ)
ids_in value = each_of (map number_of (parts_of comma value))

-- ---- parameters that may be missing, and those that may not

abbrev pub read_value : {A : Type 0} → (List ℕ → Option A) → List ℕ → Option (List ℕ) → Result (Option A) RouteFault
read_value read name None = Ok None
read_value read name (Some value) = option_map_or (λ x. Ok (Some x)) (read value) (Err (BadParameter name))

abbrev pub optional : {A : Type 0} → (List ℕ → Option A) → List ℕ → Option (List ℕ) → Result (Option A) RouteFault
optional read name query = read_value read name (value_if_any query name)

abbrev pub needed : {A : Type 0} → (List ℕ → Option A) → List ℕ → Option (List ℕ) → Result A RouteFault
needed read name query = optional read name query >>= λ found. option_map_or Ok found (Err (BadParameter name))

-- `false` counts as missing
abbrev pub flag : List ℕ → Option (List ℕ) → Result Bool RouteFault
flag name query = optional truth_of name query >>= λ found. Ok (unwrap_or found false)

-- ---- for private clauses

abbrev pub IsBad : List ℕ → RouteFault → Type 0
IsBad name fault.Memory = ⊤
IsBad name e = e ≡ BadParameter name
