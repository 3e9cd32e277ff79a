use Rattle.std.proofs.Common.{◌≡◌, ◌++◌, length}
use Rattle.std.specs.Prelude.{All}
use Rattle.journal_file.specs.Whole.{packed}
use Rattle.journal_recovery.specs.Intakes.{HasFollowed, entries_in}
use Rattle.journal_recovery.proofs.intake.take_in_all.Given as goal

-- the lines before the rest were read, and what is kept was followed
abbrev pub invariant-loop-part : goal.invariant-loop-part
invariant-loop-part g l =
    (packed l.fn.text ≡ g.T.Lines.lines (entries_in g.S.EntryJudge.keeps l.intake) ++ packed l.rest)
    × All g.T.KeptText.is_entry (entries_in g.S.EntryJudge.keeps l.intake)
    × HasFollowed g.S.EntryJudge.keeps g.S.EntryJudge.follows l.intake.followed (g.S.EntryJudge.keeps l.intake.followed.kept)

abbrev pub decreases-loop-part : goal.decreases-loop-part
decreases-loop-part g l = length l.rest
