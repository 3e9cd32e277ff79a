-- Whether the body of a message is XML.
use Rattle.std.specs.Prelude.{ℕ, ◌-◌, Bool, false, not, ◌&&◌, ◌||◌, ◌==◌, List, [], ◌∷◌, length, drop, codes, Option, Some, None, if◌then◌else◌}
use Rattle.std.specs.List.{before_first}
use Rattle.std.specs.Str.{str_eq_ignore_ascii_case}
use Rattle.httparse.specs.Grammar.{trim_ows}
use Rattle.http_wire.specs.declared.message.Message.{Message}

abbrev pub is_semicolon : ℕ → Bool
is_semicolon byte = byte == 59

-- it ends `+xml`, in letters of any case
abbrev pub has_xml_suffix : List ℕ → Bool
has_xml_suffix kind = str_eq_ignore_ascii_case (drop (length kind - 4) kind) (codes "+xml")

-- text/xml, application/xml, or one with that ending, in letters of any case (RFC 7303)
abbrev pub names_xml : List ℕ → Bool
names_xml kind =
    str_eq_ignore_ascii_case kind (codes "text/xml")
    || str_eq_ignore_ascii_case kind (codes "application/xml")
    || has_xml_suffix kind

-- the media type says XML: its part before the first `;`, without spaces and tabs at both ends
abbrev pub says_xml : Option (List ℕ) → Bool
says_xml None = false
says_xml (Some media) = names_xml (trim_ows (before_first is_semicolon media))

-- a space, a tab, or a byte of a line end
abbrev pub is_blank : ℕ → Bool
is_blank byte = (byte == 32) || (byte == 9) || (byte == 13) || (byte == 10)

-- the first byte that isn't blank is `<`
abbrev pub begins_as_xml : List ℕ → Bool
begins_as_xml [] = false
begins_as_xml (byte ∷ bytes) = if is_blank byte then begins_as_xml bytes else byte == 60

-- a body that isn't empty, and of which the media type or the first byte says XML
abbrev pub is_xml : Message → Bool
is_xml m = not (length m.body == 0) && (says_xml m.media || begins_as_xml m.body)
