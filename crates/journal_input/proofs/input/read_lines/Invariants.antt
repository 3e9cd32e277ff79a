use Rattle.std.proofs.Common.{◌+◌, ◌-◌, ◌≤◌}
use Rattle.osm_outside.specs.Told.{Told}
use Rattle.journal_text.specs.Text.{header}
use Rattle.journal_text.specs.declared.limits.TheConstants.{TEXT_LIMIT}
use Rattle.journal_input.specs.Going.{SoFar, Gone}
use Rattle.journal_input.proofs.input.read_lines.Given as goal

abbrev pub invariant-pieces : goal.invariant-pieces
invariant-pieces g l =
    ((before : Told) → SoFar before (g.S.Outside.told l.fn.source) (header l.fn.version) → Gone l.fn.version before (g.S.Outside.told l.source) (g.K.Keeper.kept l.keeper) l.lines l.count)
    × (l.count ≤ TEXT_LIMIT + 1)
    × (l.lines.number ≤ l.count + 2)

abbrev pub decreases-pieces : goal.decreases-pieces
decreases-pieces g l = TEXT_LIMIT + 1 - l.count
