-- The fields of a head, as names and values (RFC 9110, section 5).
use Rattle.std.specs.Prelude.{ℕ, Bool, List, [], ◌∷◌, Option, None, Some, if◌then◌else◌}
use Rattle.std.specs.Str.{str_eq_ignore_ascii_case}

-- a name, and the value without the white space around it
abbrev pub NamedValue : Type 0
NamedValue = List ℕ × List ℕ

-- the field has that name, whatever the case of its letters
abbrev pub is_named : List ℕ → NamedValue → Bool
is_named name field = str_eq_ignore_ascii_case field.0 name

-- the values of the fields of that name, in order
abbrev pub values_of : List ℕ → List NamedValue → List (List ℕ)
values_of name [] = []
values_of name (field ∷ fields) =
    if is_named name field then field.1 ∷ values_of name fields else values_of name fields

-- the first of some values
abbrev pub first_of : List (List ℕ) → Option (List ℕ)
first_of [] = None
first_of (value ∷ values) = Some value

-- the value of the first field of that name
abbrev pub first_value : List ℕ → List NamedValue → Option (List ℕ)
first_value name fields = first_of (values_of name fields)
