-- A list or an object that was entered, and read inside.
use Rattle.std.proofs.Common.{◌≡◌, ℕ, ◌+◌, ◌-◌, ◌<◌, List, ◌∷◌, Option, None, Result, Ok, Err, ap, ◌∙◌, arith}
use Rattle.json.specs.Token.{Token}
use Rattle.json.specs.Json.{parse_map}
use Rattle.serde_json.specs.Data.{Data, array, object}
use Rattle.osm_json.specs.declared.fault.ReadFault.{ReadFault}
use Rattle.osm_json.specs.Pull.{next_data, next_items, next_members, IsRefused, Pulls, Pulled}
use Rattle.osm_json.proofs.Firsts.{array_next, object_next}
use Rattle.osm_json.proofs.Refused.{by_part}

array_entered : (depth within : ℕ) (old mid : List Token) → depth ≡ within + 1 → old ≡ Token.begin_array ∷ mid → next_data depth old ≡ parse_map array (next_items within mid)
array_entered depth within old mid e o =
    let some : 0 < depth = omega arith in
    let less : depth - 1 ≡ within = omega arith in
    ap (next_data depth) o ∙ array_next depth mid some ∙ ap (λ w. parse_map array (next_items w mid)) less

object_entered : (depth within : ℕ) (old mid : List Token) → depth ≡ within + 1 → old ≡ Token.begin_object ∷ mid → next_data depth old ≡ parse_map object (next_members within mid)
object_entered depth within old mid e o =
    let some : 0 < depth = omega arith in
    let less : depth - 1 ≡ within = omega arith in
    ap (next_data depth) o ∙ object_next depth mid some ∙ ap (λ w. parse_map object (next_members w mid)) less

inside : {S A : Type 0} (f : S → Data) (reading : Data → A) (x : A) (found : Option (S × List Token)) (whole : Option (Data × List Token)) (new : List Token) → whole ≡ parse_map f found → Pulls (λ s. reading (f s)) x found new → Pulls reading x whole new
inside f reading x found whole new e h = record { source = f h.source; begins = e ∙ ap (parse_map f) h.begins; reads = h.reads }

pub array_pulls : {A : Type 0} (reading : Data → A) (x : A) (depth within : ℕ) (old mid new : List Token) → depth ≡ within + 1 → old ≡ Token.begin_array ∷ mid → Pulls (λ ds. reading (array ds)) x (next_items within mid) new → Pulls reading x (next_data depth old) new
array_pulls reading x depth within old mid new e o h = inside array reading x _ _ new (array_entered depth within old mid e o) h

pub object_pulls : {A : Type 0} (reading : Data → A) (x : A) (depth within : ℕ) (old mid new : List Token) → depth ≡ within + 1 → old ≡ Token.begin_object ∷ mid → Pulls (λ ms. reading (object ms)) x (next_members within mid) new → Pulls reading x (next_data depth old) new
object_pulls reading x depth within old mid new e o h = inside object reading x _ _ new (object_entered depth within old mid e o) h

pub array_refused : (depth within : ℕ) (old mid : List Token) (fault : ReadFault) → depth ≡ within + 1 → old ≡ Token.begin_array ∷ mid → IsRefused fault (next_items within mid) → IsRefused fault (next_data depth old)
array_refused depth within old mid fault e o h = by_part fault _ _ h (λ none. array_entered depth within old mid e o ∙ ap (parse_map array) none)

pub object_refused : (depth within : ℕ) (old mid : List Token) (fault : ReadFault) → depth ≡ within + 1 → old ≡ Token.begin_object ∷ mid → IsRefused fault (next_members within mid) → IsRefused fault (next_data depth old)
object_refused depth within old mid fault e o h = by_part fault _ _ h (λ none. object_entered depth within old mid e o ∙ ap (parse_map object) none)

pub array_pulled : {A X : Type 0} (view : X → A) (reading : Data → A) (result : Result X ReadFault) (depth within : ℕ) (old mid new : List Token) → depth ≡ within + 1 → old ≡ Token.begin_array ∷ mid
    → Pulled view (λ ds. reading (array ds)) result (next_items within mid) new → Pulled view reading result (next_data depth old) new
array_pulled view reading (Ok x) depth within old mid new e o h = array_pulls reading (view x) depth within old mid new e o h
array_pulled view reading (Err fault) depth within old mid new e o h = array_refused depth within old mid fault e o h

pub object_pulled : {A X : Type 0} (view : X → A) (reading : Data → A) (result : Result X ReadFault) (depth within : ℕ) (old mid new : List Token) → depth ≡ within + 1 → old ≡ Token.begin_object ∷ mid
    → Pulled view (λ ms. reading (object ms)) result (next_members within mid) new → Pulled view reading result (next_data depth old) new
object_pulled view reading (Ok x) depth within old mid new e o h = object_pulls reading (view x) depth within old mid new e o h
object_pulled view reading (Err fault) depth within old mid new e o h = object_refused depth within old mid fault e o h

-- a value that is not of that kind reads as nothing
pub not_of_kind : {A B : Type 0} (inside : Data → Option B) (reading : Data → A) (x : A) (found : Option (Data × List Token)) (new : List Token) → ((d : Data) → inside d ≡ None → reading d ≡ x) → Pulls inside None found new → Pulls reading x found new
not_of_kind inside reading x found new so h = record { source = h.source; begins = h.begins; reads = so h.source h.reads }
