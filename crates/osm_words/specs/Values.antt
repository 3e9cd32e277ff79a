-- The values of options.
use Rattle.std.specs.Prelude.{ℕ, ◌*◌, Bool, false, codes, ◌&&◌, not, ◌==◌, nat_lt, nat_le, List, length, slice_index, Option, Some, None, if◌then◌else◌}
use Rattle.std.specs.Option.{option_and_then}
use Rattle.std.specs.Str.{bytes_eq}
use Rattle.osm_base.specs.Number.{whole_of}
use Rattle.osm_words.specs.declared.words.TheConstants.{UPLOADS_A_SESSION}
use Rattle.osm_words.specs.declared.words.LoadOptions.{LoadOptions}

-- any text that isn't empty and doesn't begin with `-`
abbrev pub is_text : List ℕ → Bool
is_text text = nat_lt 0 (length text) && not (slice_index text 0 == 45)

abbrev pub text_of : List ℕ → Option (List ℕ)
text_of text = if is_text text then Some text else None

-- a flag that was given has this value, and another one where it wasn't
abbrev pub is_set : Option (List ℕ) → Bool
is_set None = false
is_set (Some text) = bytes_eq text (codes "true")

-- the number, where it lies from the least to the most
abbrev pub checked : ℕ → ℕ → ℕ → Option ℕ
checked least most number = if nat_le least number && nat_le number most then Some number else None

abbrev pub number_in : ℕ → ℕ → List ℕ → Option ℕ
number_in least most text = option_and_then (checked least most) (whole_of text)

-- the load, where none of its changesets is filled
abbrev pub fitting : ℕ → ℕ → ℕ → Option LoadOptions
fitting seed sessions uploads =
    if nat_le uploads (UPLOADS_A_SESSION * sessions)
    then Some (record { seed = seed; sessions = sessions; uploads = uploads }) else None
