-- The document of an upload, and the text that it is.
use Rattle.std.proofs.Common.{◌≡◌, ℕ, List, [], ◌∷◌, codes, Bool, true, false, cond, if◌then◌else◌, bytes_eq, Option, Some, None, option_map, IsUtf8, refl, sym, ap, ◌∙◌}
use Rattle.std.specs.Str.{is_utf8}
use Rattle.std.proofs.lemmas.Str.{is_utf8-from_IsUtf8, IsUtf8-from_is_utf8}
use Rattle.json.specs.Json.{value}
use Rattle.json.specs.Lex.{tokens}
use Rattle.json.specs.Token.{Token}
use Rattle.serde_json.specs.Data.{Data, null, boolean, number, string, array, object, Members, put}
use Rattle.serde_json.specs.Find.{get, get_member, as_array, as_object, as_str}
use Rattle.serde_json.specs.Read.{read}
use Rattle.osm_json.specs.Reading.{◌>>=◌, only_if, is_title, title_of, in_json, or_shape, data_of}
use Rattle.osm_json.specs.Found.{title_in_members}
use Rattle.osm_json.specs.Pull.{next_data, ended, Pulls}
use Rattle.osm_json.specs.Walked.{walk_value, walk_document}
use Rattle.osm_json.proofs.Converted.{whole}
use Rattle.osm_json.proofs.Members.{given_is}
use Rattle.osm_json.proofs.Objects.{found_put}

by_name : (b : Bool) (d : Data) (o : Option Data) → (if b then walk_value (as_array d) else walk_document o) ≡ walk_document (cond b (Some d) o)
by_name true d o = refl
by_name false d o = refl

pub member_walked : (key : List ℕ) (d : Data) (ms : Members) → (if bytes_eq key (codes "osmChange") then walk_value (as_array d) else walk_document (get_member (codes "osmChange") ms)) ≡ walk_document (get_member (codes "osmChange") (put key d ms))
member_walked key d ms = by_name (bytes_eq key (codes "osmChange")) d (get_member (codes "osmChange") ms) ∙ ap walk_document (sym (found_put (codes "osmChange") key d ms))

pub no_document : (d : Data) → as_object d ≡ None → walk_document (get (codes "osmChange") d) ≡ None
no_document null e = refl
no_document (boolean b) e = refl
no_document (number n) e = refl
no_document (string s) e = refl
no_document (array ds) e = refl
no_document (object ms) e = absurd (cc)

-- ---- a title

titled : (b : Bool) (d : Data) (o : Option Data) → (if b then Some (as_str d) else option_map as_str o) ≡ option_map as_str (cond b (Some d) o)
titled true d o = refl
titled false d o = refl

pub title_put : (key : List ℕ) (d : Data) (ms : Members) → (if bytes_eq key (codes "title") then Some (as_str d) else option_map as_str (get_member (codes "title") ms)) ≡ option_map as_str (get_member (codes "title") (put key d ms))
title_put key d ms = titled (bytes_eq key (codes "title")) d (get_member (codes "title") ms) ∙ ap (option_map as_str) (sym (found_put (codes "title") key d ms))

pub no_title : (d : Data) → as_object d ≡ None → option_map as_str (get (codes "title") d) ≡ None
no_title null e = refl
no_title (boolean b) e = refl
no_title (number n) e = refl
no_title (string s) e = refl
no_title (array ds) e = refl
no_title (object ms) e = absurd (cc)

-- ---- the end of the text

pub over : {A : Type 0} (reading : Data → A) (x : A) (found : Option (Data × List Token)) (new : List Token) → new ≡ [] → Pulls reading x found new → Pulls reading x (ended found) []
over reading x found new e h = record { source = h.source; begins = ap ended (h.begins ∙ ap (λ ts. Some (h.source, ts)) e); reads = h.reads }

pub more_left : (found : Option (Data × List Token)) (d : Data) (t : Token) (new ts : List Token) → found ≡ Some (d, new) → new ≡ t ∷ ts → ended found ≡ None
more_left found d t new ts e f = ap ended (e ∙ ap (λ us. Some (d, us)) f)

pub text_read : (text : List ℕ) (d : Data) → ended (next_data 127 (tokens text)) ≡ Some (d, []) → read text ≡ Some d
text_read text d e = whole (value 127 (tokens text)) ∙ ap (option_map (λ p. p.0)) e

pub text_refused : (text : List ℕ) → ended (next_data 127 (tokens text)) ≡ None → read text ≡ None
text_refused text e = whole (value 127 (tokens text)) ∙ ap (option_map (λ p. p.0)) e

-- the title that the members give is the one of the definition
pub title_same : (text : List ℕ) (d : Data) (found : Option (Option (List ℕ))) → ended (next_data 127 (tokens text)) ≡ Some (d, []) → option_map as_str (get (codes "title") d) ≡ found → in_json (λ d. or_shape 0 (title_of d)) (read text) ≡ or_shape 0 (title_in_members found)
title_same text d found e is =
    ap (in_json (λ d. or_shape 0 (title_of d))) (text_read text d e) ∙ ap (or_shape 0) (sym (ap (λ o. o >>= λ t. only_if (is_title t) t) (given_is as_str (get (codes "title") d)))) ∙ ap (λ o. or_shape 0 (title_in_members o)) is

-- ---- the data of a body

pub data_read : (body : List ℕ) → IsUtf8 body → data_of body ≡ read body
data_read body utf8 = rw (is_utf8-from_IsUtf8 body utf8) refl

none_chosen : (b : Bool) (found : Option Data) → (b ≡ true → found ≡ None) → (if b then found else None) ≡ None
none_chosen true found h = h refl
none_chosen false found h = refl

pub data_missing : (body : List ℕ) → (IsUtf8 body → read body ≡ None) → data_of body ≡ None
data_missing body h = none_chosen (is_utf8 body) (read body) (λ e. h (IsUtf8-from_is_utf8 body e))
