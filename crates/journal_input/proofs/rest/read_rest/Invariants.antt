use Rattle.std.proofs.Common.{◌≡◌, ◌+◌, ◌-◌, ◌≤◌, ℕ, List, length}
use Rattle.osm_outside.specs.Told.{Told}
use Rattle.journal_text.specs.declared.limits.TheConstants.{TEXT_LIMIT}
use Rattle.journal_input.specs.Going.{SoFar}
use Rattle.journal_input.specs.Place.{Sees}
use Rattle.journal_input.proofs.Goes.{Longer}
use Rattle.journal_input.proofs.rest.read_rest.Given as goal

abbrev pub invariant-rest : goal.invariant-rest
invariant-rest g l =
    ((before : Told) (text : List ℕ) → SoFar before (g.S.Outside.told l.fn.source) text → l.fn.count ≡ length text → Sees l.fn.place text → Longer before (g.S.Outside.told l.source) text l.total l.place)
    × (l.total ≤ TEXT_LIMIT + 1)

abbrev pub decreases-rest : goal.decreases-rest
decreases-rest g l = TEXT_LIMIT + 1 - l.total
