-- What a read gives.
use Rattle.std.specs.Prelude.{◌≡◌, ◌⊎◌, Result, Err}
use Rattle.osm_change.specs.declared.reads.ReadFault.{ReadFault}
use Rattle.osm_change.specs.declared.reads.ReadFault.TheVariants as fault

-- what the definition says, or there was no memory
abbrev pub IsRead : {A : Type 0} → Result A ReadFault → Result A ReadFault → Type 0
IsRead expected result = (result ≡ expected) ⊎ (result ≡ Err fault.Memory)
