-- What a call on a changeset gives.
use Rattle.std.specs.Prelude.{◌≡◌, ⊤, Result, Ok, Err}
use Rattle.osm_change.specs.declared.refusals.Refusal.{Refusal}
use Rattle.osm_change.specs.declared.refusals.Refusal.TheVariants as refused
use Rattle.changeset_calls.specs.declared.faults.ChangesetFault.{ChangesetFault}
use Rattle.changeset_calls.specs.declared.faults.ChangesetFault.TheVariants as fault

-- what the definition says, unless memory ran out
abbrev pub IsFound : {A : Type 0} → Result A Refusal → Result A ChangesetFault → Type 0
IsFound expected (Ok a) = expected ≡ Ok a
IsFound expected (Err (fault.NoChangeset c)) = expected ≡ Err (refused.NoChangeset c)
IsFound expected (Err fault.Memory) = ⊤
