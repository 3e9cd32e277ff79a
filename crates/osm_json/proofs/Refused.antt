-- What is refused because of a part of it.
use Rattle.std.proofs.Common.{◌≡◌, ℕ, List, Option, None, Result, Ok, Err, refl, ap, ◌∙◌}
use Rattle.std.specs.Result.{IsErrAnd}
use Rattle.json.specs.Json.{parse_map}
use Rattle.json.specs.Token.{Token}
use Rattle.serde_json.specs.Data.{Data, Members}
use Rattle.osm_json.specs.declared.fault.ReadFault.{ReadFault}
use Rattle.osm_json.specs.declared.fault.ReadFault.TheVariants.{NotJson, Memory}
use Rattle.osm_json.specs.Pull.{next_data, IsRefused, Pulled, Passed, Enters, PulledMembers}

pub by_part : {S T : Type 0} (fault : ReadFault) (part : Option (S × List Token)) (whole : Option (T × List Token)) → IsRefused fault part → (part ≡ None → whole ≡ None) → IsRefused fault whole
by_part Memory part whole h k = tt
by_part NotJson part whole h k = k h

-- the exit of a `?`
pub at_exit : {S A X : Type 0} (view : X → A) (reading : S → A) (found : Option (S × List Token)) (new : List Token) (result : Result X ReadFault) (fault : ReadFault)
    → IsErrAnd result (λ e. e ≡ fault) → IsRefused fault found → Pulled view reading result found new
at_exit view reading found new (Ok x) fault h k = absurd h
at_exit view reading found new (Err e) fault h k = rw h k

-- what is inside was passed, so the whole was
pub passed_inside : {S T : Type 0} (f : S → T) (result : Result (Unit {0}) ReadFault) (inside : Option (S × List Token)) (whole : Option (T × List Token)) (new : List Token) → whole ≡ parse_map f inside → Passed result inside new → Passed result whole new
passed_inside f (Ok u) inside whole new e h = record { source = f h.source; begins = e ∙ ap (parse_map f) h.begins; reads = refl }
passed_inside f (Err fault) inside whole new e h = by_part fault inside whole h (λ none. e ∙ ap (parse_map f) none)

-- the same where a value was to be entered
pub at_enter : {B : Type 0} (t : Token) (inside : Data → Option B) (depth : ℕ) (old new : List Token) (result : Result (Option ℕ) ReadFault) (fault : ReadFault)
    → IsErrAnd result (λ e. e ≡ fault) → IsRefused fault (next_data depth old) → Enters t inside result depth old new
at_enter t inside depth old new (Ok x) fault h k = absurd h
at_enter t inside depth old new (Err e) fault h k = rw h k

-- the same where what was found is told by a relation
pub at_members : {X : Type 0} (P : X → Members → Type 0) (found : Option (Members × List Token)) (new : List Token) (result : Result X ReadFault) (fault : ReadFault)
    → IsErrAnd result (λ e. e ≡ fault) → IsRefused fault found → PulledMembers P result found new
at_members P found new (Ok x) fault h k = absurd h
at_members P found new (Err e) fault h k = rw h k
