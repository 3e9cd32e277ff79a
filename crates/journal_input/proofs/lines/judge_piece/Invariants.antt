use Rattle.std.proofs.Common.{◌+◌, ◌≤◌, ◌++◌, ℕ, List, [], length}
use Rattle.journal_input.specs.Going.{Stands}
use Rattle.journal_input.proofs.lines.judge_piece.Given as goal

-- the lines before the rest were judged, and each ended in the piece
abbrev pub invariant-ends : goal.invariant-ends
invariant-ends g l =
    ((bytes : List ℕ) → Stands l.fn.version bytes (g.K.Keeper.kept l.fn.keeper) l.fn.lines [] → Stands l.fn.version (bytes ++ l.fn.piece) (g.K.Keeper.kept l.keeper) l.lines l.rest)
    × (l.lines.number + length l.rest ≤ l.fn.lines.number + length l.fn.piece)

abbrev pub decreases-ends : goal.decreases-ends
decreases-ends g l = length l.rest
