-- What an accepted operation did.
use Rattle.std.specs.Prelude.{ℕ, Bool, true, false}
use Rattle.osm_change.specs.declared.operations.OpDone.{OpDone}
use Rattle.osm_change.specs.declared.operations.OpDone.TheVariants.{Applied, Skipped}

abbrev pub is_applied : OpDone → Bool
is_applied (Applied version) = true
is_applied (Skipped version) = false

-- the version that was made, or at which the element was left
abbrev pub done_version : OpDone → ℕ
done_version (Applied version) = version
done_version (Skipped version) = version
