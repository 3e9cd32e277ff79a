-- A member whose value was read and kept.
use Rattle.std.proofs.Common.{◌≡◌, Bool, true, List, Option, Some, option_map, Result, Ok, Err, OnOk, MatchResult, sym, ap, ◌∙◌}
use Rattle.json.specs.Token.{Token}
use Rattle.osm_json.specs.declared.fault.ReadFault.{ReadFault}
use Rattle.osm_json.specs.Pull.{Pulled}

-- the place has what was read, or reading failed
abbrev pub Keeps : {A : Type 0} → Result A ReadFault → Result (Unit {0}) ReadFault → Option A → Type 0
Keeps read result place = MatchResult read (λ value. (result ≡ Ok tt) × (place ≡ Some value)) (λ fault. result ≡ Err fault)

pub kept : {S A F : Type 0} (reading : S → A) (write : Option A → F) (read : Result A ReadFault) (result : Result (Unit {0}) ReadFault) (place : Option A) (found : Option (S × List Token)) (rest : List Token)
    → Pulled (λ x. x) reading read found rest → Keeps read result place → Pulled (λ _. write place) (λ s. write (Some (reading s))) result found rest
kept reading write (Ok value) result place found rest h k =
    rw k.0 (record { source = h.source; begins = h.begins; reads = ap (λ a. write (Some a)) h.reads ∙ ap write (sym k.1) })
kept reading write (Err fault) result place found rest h k = rw k h

-- the same where what was read is seen as another value
pub kept_seen : {S A F X : Type 0} (view : X → A) (reading : S → A) (write : Option A → F) (read : Result X ReadFault) (result : Result (Unit {0}) ReadFault) (place : Option X) (found : Option (S × List Token)) (rest : List Token)
    → Pulled view reading read found rest → Keeps read result place → Pulled (λ _. write (option_map view place)) (λ s. write (Some (reading s))) result found rest
kept_seen view reading write (Ok value) result place found rest h k =
    rw k.0 (record { source = h.source; begins = h.begins; reads = ap (λ a. write (Some a)) h.reads ∙ ap (λ p. write (option_map view p)) (sym k.1) })
kept_seen view reading write (Err fault) result place found rest h k = rw k h

pub kept_on : {A : Type 0} (P : Type 0) (read : Result A ReadFault) (result : Result (Unit {0}) ReadFault) (place : Option A) → OnOk read P → Keeps read result place → OnOk result P
kept_on P (Ok value) result place h k = rw k.0 h
kept_on P (Err fault) result place h k = rw k tt

-- the member was there and is a list or not, or reading failed
abbrev pub KeepsList : Result Bool ReadFault → Result (Unit {0}) ReadFault → Bool → Bool → Type 0
KeepsList read result there is_list = MatchResult read (λ value. (result ≡ Ok tt) × (there ≡ true) × (is_list ≡ value)) (λ fault. result ≡ Err fault)

pub kept_list : {S G F : Type 0} (reading : S → Bool × G) (seen : G) (write : Bool → Bool → G → F) (read : Result Bool ReadFault) (result : Result (Unit {0}) ReadFault) (there is_list : Bool) (found : Option (S × List Token)) (rest : List Token)
    → Pulled (λ b. (b, seen)) reading read found rest → KeepsList read result there is_list → Pulled (λ _. write there is_list seen) (λ s. write true (reading s).0 (reading s).1) result found rest
kept_list reading seen write (Ok value) result there is_list found rest h k =
    rw k.0 (record { source = h.source; begins = h.begins; reads = ap (λ w. write true w.0 w.1) h.reads ∙ ap (λ b. write b value seen) (sym k.1) ∙ ap (λ b. write there b seen) (sym k.2) })
kept_list reading seen write (Err fault) result there is_list found rest h k = rw k h

pub kept_list_on : (P : Type 0) (read : Result Bool ReadFault) (result : Result (Unit {0}) ReadFault) (there is_list : Bool) → OnOk read P → KeepsList read result there is_list → OnOk result P
kept_list_on P (Ok value) result there is_list h k = rw k.0 h
kept_list_on P (Err fault) result there is_list h k = rw k tt
