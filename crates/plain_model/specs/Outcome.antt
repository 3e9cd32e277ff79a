-- A step of the program leaves what the rules say, or wants memory.
use Rattle.std.specs.Prelude.{◌≡◌, ⊤, Result, Ok, Err}
use Rattle.osm_change.specs.declared.refusals.Refusal.{Refusal}
use Rattle.osm_model.specs.declared.faults.Fault.{Fault}
use Rattle.osm_model.specs.declared.faults.Fault.TheVariants as fault

-- it leaves in place what the rules say, unless memory ran out
abbrev pub Leaves : {A : Type 0} → Result A Refusal → A → Result (Unit {0}) Fault → Type 0
Leaves expected made (Ok done) = expected ≡ Ok made
Leaves expected made (Err fault.Memory) = ⊤
Leaves expected made (Err (fault.Refused r)) = expected ≡ Err r
