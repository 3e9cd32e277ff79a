-- What is read at one look is read of the whole value.
use Rattle.std.proofs.Common.{◌≡◌, List, Option, refl, sym, ap, ◌∙◌}
use Rattle.json.specs.Token.{Token}
use Rattle.serde_json.specs.Data.{Data, null, boolean, number, string, array, object}
use Rattle.serde_json.specs.Find.{as_str, as_bool}
use Rattle.osm_json.specs.Again.{natural_of}
use Rattle.osm_json.specs.Reading.{integer_of, id_of, count_of, kind_of}
use Rattle.osm_json.specs.Pull.{Pulls}
use Rattle.osm_json.specs.Scalars.{flat}

-- it plays no part what an array or an object contains
abbrev pub IsFlat : {A : Type 0} → (Data → A) → Type 0
IsFlat reading = (d : Data) → reading (flat d) ≡ reading d

pub looked : {A : Type 0} (reading : Data → A) (v : Data) (x : A) (found : Option (Data × List Token)) (new : List Token) → IsFlat reading → Pulls flat v found new → x ≡ reading v → Pulls reading x found new
looked reading v x found new is_flat h e = record { source = h.source; begins = h.begins; reads = sym (is_flat h.source) ∙ ap reading h.reads ∙ sym e }

pub flat_integer : IsFlat integer_of
flat_integer null = refl
flat_integer (boolean b) = refl
flat_integer (number n) = refl
flat_integer (string s) = refl
flat_integer (array ds) = refl
flat_integer (object ms) = refl

pub flat_id : IsFlat id_of
flat_id null = refl
flat_id (boolean b) = refl
flat_id (number n) = refl
flat_id (string s) = refl
flat_id (array ds) = refl
flat_id (object ms) = refl

pub flat_count : IsFlat count_of
flat_count null = refl
flat_count (boolean b) = refl
flat_count (number n) = refl
flat_count (string s) = refl
flat_count (array ds) = refl
flat_count (object ms) = refl

pub flat_natural : IsFlat natural_of
flat_natural null = refl
flat_natural (boolean b) = refl
flat_natural (number n) = refl
flat_natural (string s) = refl
flat_natural (array ds) = refl
flat_natural (object ms) = refl

pub flat_kind : IsFlat kind_of
flat_kind null = refl
flat_kind (boolean b) = refl
flat_kind (number n) = refl
flat_kind (string s) = refl
flat_kind (array ds) = refl
flat_kind (object ms) = refl

pub flat_text : IsFlat as_str
flat_text null = refl
flat_text (boolean b) = refl
flat_text (number n) = refl
flat_text (string s) = refl
flat_text (array ds) = refl
flat_text (object ms) = refl

pub flat_flag : IsFlat as_bool
flat_flag null = refl
flat_flag (boolean b) = refl
flat_flag (number n) = refl
flat_flag (string s) = refl
flat_flag (array ds) = refl
flat_flag (object ms) = refl
