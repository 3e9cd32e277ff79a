-- A step of the program gives what the rules say, or wants memory.
use Rattle.std.specs.Prelude.{◌≡◌, ⊤, Result, Ok, Err}
use Rattle.osm_change.specs.declared.refusals.Refusal.{Refusal}
use Rattle.osm_model.specs.declared.faults.Fault.{Fault}
use Rattle.osm_model.specs.declared.faults.Fault.TheVariants as fault

-- it gives what the rules say, unless memory ran out
abbrev pub Gives : {A : Type 0} → Result A Refusal → Result A Fault → Type 0
Gives expected (Ok a) = expected ≡ Ok a
Gives expected (Err fault.Memory) = ⊤
Gives expected (Err (fault.Refused r)) = expected ≡ Err r
