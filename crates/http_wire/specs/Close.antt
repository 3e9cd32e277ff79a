-- Whether the link ends after the reply (RFC 9110, section 7.6.1; RFC 9112, section 9.6).
use Rattle.std.specs.Prelude.{ℕ, Bool, ◌||◌, ◌==◌, List, codes}
use Rattle.std.specs.List.{list_any, slice_split}
use Rattle.std.specs.Str.{str_eq_ignore_ascii_case}
use Rattle.httparse.specs.Grammar.{trim_ows}
use Rattle.http_wire.specs.Fields.{NamedValue, values_of}

-- a part of a value, cut of spaces and tabs, is `close`
abbrev pub is_close : List ℕ → Bool
is_close part = str_eq_ignore_ascii_case (trim_ows part) (codes "close")

-- some part between commas is `close`
abbrev pub says_close : List ℕ → Bool
says_close value = list_any is_close (slice_split (λ byte. byte == 44) value)

-- the version is HTTP/1.0, or some Connection field says close
abbrev pub ends_link : ℕ → List NamedValue → Bool
ends_link minor fields = minor == 0 || list_any says_close (values_of (codes "connection") fields)
