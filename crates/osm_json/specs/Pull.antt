-- What tokens begin with, as the data that `serde_json` reads of them.
use Rattle.std.specs.Prelude.{◌≡◌, ℕ, ◌+◌, List, [], ◌∷◌, length, Option, Some, None, Result, Ok, Err}
use Rattle.json.specs.Token.{Token}
use Rattle.json.specs.Json.{value, items, members}
use Rattle.serde_json.specs.Data.{Data, Items, Members, no_members}
use Rattle.serde_json.specs.Read.{of_json, of_items, of_members, converted}
use Rattle.osm_json.specs.declared.fault.ReadFault.{ReadFault}
use Rattle.osm_json.specs.declared.fault.ReadFault.TheVariants.{NotJson, Memory}

-- the value, and the tokens after it; arrays and objects nest no deeper than the number
abbrev pub next_data : ℕ → List Token → Option (Data × List Token)
next_data depth ts = converted of_json (value depth ts)

-- where no token follows
abbrev pub ended : Option (Data × List Token) → Option (Data × List Token)
ended None = None
ended (Some (d, [])) = Some (d, [])
ended (Some (d, t ∷ ts)) = None

-- the rest of an array
abbrev pub next_items : ℕ → List Token → Option (Items × List Token)
next_items depth ts = converted of_items (items (value depth) (length ts) ts)

-- the rest of an object, of which these members were read
abbrev pub more_members : Members → ℕ → List Token → Option (Members × List Token)
more_members found depth ts = converted (λ ms. of_members ms found) (members (value depth) (length ts) ts)

abbrev pub next_members : ℕ → List Token → Option (Members × List Token)
next_members = more_members no_members

-- what was found reads as x, and new is left
pub record Pulls {S A : Type 0} (reading : S → A) (x : A) (found : Option (S × List Token)) (new : List Token) : Type 0 where
  pub source : S
  pub begins : found ≡ Some (source, new)
  pub reads : reading source ≡ x

-- nothing is found, unless memory ran out
abbrev pub IsRefused : {S : Type 0} → ReadFault → Option (S × List Token) → Type 0
IsRefused Memory found = Unit {0}
IsRefused NotJson found = found ≡ None

-- what a function gave is what was found, read, unless memory ran out
abbrev pub Pulled : {S A X : Type 0} → (X → A) → (S → A) → Result X ReadFault → Option (S × List Token) → List Token → Type 0
Pulled view reading (Ok x) found new = Pulls reading (view x) found new
Pulled view reading (Err fault) found new = IsRefused fault found

-- the same, where what was found is told by a relation
pub record Tells {S : Type 0} (P : S → Type 0) (found : Option (S × List Token)) (new : List Token) : Type 0 where
  pub source : S
  pub begins : found ≡ Some (source, new)
  pub told : P source

abbrev pub PulledMembers : {X : Type 0} → (X → Members → Type 0) → Result X ReadFault → Option (Members × List Token) → List Token → Type 0
PulledMembers P (Ok x) found new = Tells (P x) found new
PulledMembers P (Err fault) found new = IsRefused fault found

abbrev pub nothing : {S : Type 0} → S → Unit {0}
nothing s = tt

-- what was found was passed
abbrev pub Passed : {S : Type 0} → Result (Unit {0}) ReadFault → Option (S × List Token) → List Token → Type 0
Passed result found new = Pulled (λ u. u) nothing result found new

-- the value that opens with t was entered, where what is inside may nest so deep, or another was passed
abbrev pub Enters : {B : Type 0} → Token → (Data → Option B) → Result (Option ℕ) ReadFault → ℕ → List Token → List Token → Type 0
Enters t inside (Ok (Some within)) depth old new = (depth ≡ within + 1) × (old ≡ t ∷ new)
Enters t inside (Ok None) depth old new = Pulls inside None (next_data depth old) new
Enters t inside (Err fault) depth old new = IsRefused fault (next_data depth old)
