-- What a part of a body was read as is what a line is read as there.
use Rattle.std.proofs.Common.{◌≡◌, ℕ, List, Option, Some, Result, Ok, Err, ap, ◌∙◌}
use Rattle.json.specs.Token.{Token}
use Rattle.osm_json.specs.Again.{next_as, Draws}
use Rattle.osm_json.specs.declared.fault.BodyFault.{BodyFault}
use Rattle.osm_json.specs.declared.fault.BodyFault.TheVariants as bodies
use Rattle.serde_json.specs.Data.{Data}
use Rattle.json_line.specs.Heard.{Hears, heard_of}
use Rattle.json_line.specs.Read.{Parsed, ◌>>=◌, key_next, member_next}

pub hears_value : {X A : Type 0} (view : X → A) (read : Result X BodyFault) (found : Parsed A) (new : List Token) → Draws view read found new → Hears view (heard_of read) found new
hears_value view (Ok x) found new h = h
hears_value view (Err bodies.Memory) found new h = tt
hears_value view (Err bodies.NotJson) found new h = h
hears_value view (Err (bodies.Shape op)) found new h = h

pub hears : {X A : Type 0} (view : X → A) (name : List ℕ) (reading : Data → Option A) (read : Result X BodyFault) (old mid new : List Token)
    → key_next name old ≡ Some (tt, mid) → Draws view read (next_as reading mid) new → Hears view (heard_of read) (member_next name reading old) new
hears view name reading (Ok x) old mid new key h = ap (λ (o : Parsed (Unit {0})). o >>= λ _ ts. next_as reading ts) key ∙ h
hears view name reading (Err bodies.Memory) old mid new key h = tt
hears view name reading (Err bodies.NotJson) old mid new key h = ap (λ (o : Parsed (Unit {0})). o >>= λ _ ts. next_as reading ts) key ∙ h
hears view name reading (Err (bodies.Shape op)) old mid new key h = ap (λ (o : Parsed (Unit {0})). o >>= λ _ ts. next_as reading ts) key ∙ h
