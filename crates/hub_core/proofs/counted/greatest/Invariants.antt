use Rattle.std.proofs.Common.{ℕ, ◌+◌, Option, Some, None}
use Rattle.hub_core.specs.Journal.{IsLast}
use Rattle.hub_core.proofs.counted.greatest.Given as goal

-- no session past the place has an entry
abbrev pub invariant-loop-place : goal.invariant-loop-place
invariant-loop-place l = IsLast l.calls l.place

abbrev pub past : Option (ℕ × ℕ) → ℕ
past None = 0
past (Some place) = place.0 + 1

abbrev pub decreases-loop-place : goal.decreases-loop-place
decreases-loop-place l = past l.place
