-- A target as its path and its query (RFC 3986, section 3).
use Rattle.std.specs.Prelude.{ℕ, ◌-◌, nat_eq, if◌then◌else◌, List, length, take, codes, Option, Some, None}
use Rattle.std.specs.Option.{option_map}
use Rattle.std.specs.List.{list_all, before_first, ends_with}
use Rattle.std.specs.Char.{is_ascii}
use Rattle.osm_base.specs.Parts.{is_byte, parted}

abbrev pub question_mark : ℕ
question_mark = 63

-- what stands behind the first question mark
abbrev pub query_of : List ℕ → Option (List ℕ)
query_of target = option_map (λ part. part.1) (parted question_mark target)

-- one ending counts for nothing
abbrev pub without_json : List ℕ → List ℕ
without_json path = if ends_with nat_eq path (codes ".json") then take (length path - 5) path else path

-- the path of a target that is ASCII. It isn't percent-decoded. All routes begin with a slash, so none has a path that doesn't.
abbrev pub path_of : List ℕ → Option (List ℕ)
path_of target =
    if list_all is_ascii target then Some (without_json (before_first (is_byte question_mark) target)) else None
