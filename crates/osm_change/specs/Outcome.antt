-- Readings of operations: the first that is refused counts.
use Rattle.std.specs.Prelude.{◌≡◌, ℕ, ◌+◌, Bool, true, false, List, [], ◌∷◌, Result, Ok, Err, ◌⊎◌}
use Rattle.osm_base.specs.Outcome.{◌>>=◌}
use Rattle.osm_change.specs.declared.causes.Cause.{Cause}
use Rattle.osm_change.specs.declared.causes.Cause.TheVariants.{Memory, NotNegative, DoublePlaceholder, UnknownPlaceholder, NoVersion, Local, OtherChangeset}
use Rattle.osm_change.specs.declared.causes.ShapeFault.{ShapeFault}
use Rattle.osm_change.specs.declared.operations.Op.{Op}

abbrev pub cons_ok : {A E : Type 0} → A → Result (List A) E → Result (List A) E
cons_ok x (Ok xs) = Ok (x ∷ xs)
cons_ok x (Err e) = Err e

-- what each item gives, up to the first that is refused
abbrev pub each : {A B E : Type 0} → (A → Result B E) → List A → Result (List B) E
each f [] = Ok []
each f (x ∷ xs) = f x >>= (λ y. cons_ok y (each f xs))

-- operations are counted from 1, places from 0
abbrev pub fault_at : ℕ → Cause → ShapeFault
fault_at place cause = record { op = place + 1; cause = cause }

abbrev pub out_of_memory : ShapeFault
out_of_memory = record { op = 0; cause = Memory }

abbrev pub is_memory : Cause → Bool
is_memory Memory = true
is_memory NotNegative = false
is_memory DoublePlaceholder = false
is_memory UnknownPlaceholder = false
is_memory NoVersion = false
is_memory (Local fault) = false
is_memory (OtherChangeset named) = false

-- a step gives what is expected, unless memory ran out
abbrev pub Gives : {A : Type 0} → Result A Cause → Result A Cause → Type 0
Gives expected (Ok a) = expected ≡ Ok a
Gives expected (Err cause) = (cause ≡ Memory) ⊎ (expected ≡ Err cause)

-- a reading gives what is expected. Want of memory isn't the fault of an operation
abbrev pub GivesChange : Result (List Op) ShapeFault → Result (List Op) ShapeFault → Type 0
GivesChange expected (Ok ops) = expected ≡ Ok ops
GivesChange expected (Err fault) = (fault ≡ out_of_memory) ⊎ (expected ≡ Err fault)
