-- What is made of the data that was read of a body.
use Rattle.std.proofs.Common.{◌≡◌, ℕ, List, Bool, true, false, if◌then◌else◌, Option, Some, None, Result, Ok, Err, IsUtf8, refl, ap, ◌∙◌}
use Rattle.std.specs.Str.{is_utf8}
use Rattle.std.proofs.lemmas.Str.{is_utf8-from_IsUtf8, IsUtf8-from_is_utf8}
use Rattle.serde_json.specs.Data.{Data}
use Rattle.serde_json.specs.Read.{read}
use Rattle.serde_json.specs.View.{view}
use Rattle.serde_json.specs.declared.value.Value.{Value}
use Rattle.osm_json.specs.Reading.{Gives, data_of, in_json, or_shape}
use Rattle.osm_json.specs.declared.fault.BodyFault.{BodyFault}
use Rattle.osm_json.specs.declared.fault.BodyFault.TheVariants.{NotJson, Shape, Memory}
use Rattle.notes_desk.specs.Bodies.{Reads}

-- ---- the data of a body

pub given : (body : List ℕ) (value : Value) → IsUtf8 body × (read body ≡ Some (view value)) → data_of body ≡ Some (view value)
given body value there = rw (is_utf8-from_IsUtf8 body there.0) there.1

none_chosen : (b : Bool) (found : Option Data) → (b ≡ true → found ≡ None) → (if b then found else None) ≡ None
none_chosen true found h = h refl
none_chosen false found h = refl

pub ungiven : (body : List ℕ) → (IsUtf8 body → read body ≡ None) → data_of body ≡ None
ungiven body h = none_chosen (is_utf8 body) (read body) (λ e. h (IsUtf8-from_is_utf8 body e))

-- ---- what is made of it

-- the fault of a body that has no data
pub missing : {A X : Type 0} (shown : X → A) (reading : Data → Result A BodyFault) (fault : BodyFault) (found : Option Data)
    → Reads (Err fault) found → Gives {A = A} {X = X} shown (Err fault) (in_json reading found)
missing shown reading Memory found is = tt
missing shown reading NotJson found is = ap (in_json reading) is
missing shown reading (Shape op) found is = absurd is

-- what is made of the data that is there
pub present : {A : Type 0} (wanted : Data → Option A) (value : Value) (found : Option Data) (made : A)
    → Reads (Ok value) found → wanted (view value) ≡ Some made → in_json (λ d. or_shape 0 (wanted d)) found ≡ Ok made
present wanted value found made is makes = ap (in_json (λ d. or_shape 0 (wanted d))) is ∙ ap (or_shape 0) makes

-- where nothing is made of it
pub malformed : {A : Type 0} (wanted : Data → Option A) (value : Value) (found : Option Data)
    → Reads (Ok value) found → wanted (view value) ≡ None → in_json (λ d. or_shape 0 (wanted d)) found ≡ Err (Shape 0)
malformed wanted value found is makes = ap (in_json (λ d. or_shape 0 (wanted d))) is ∙ ap (or_shape 0) makes
