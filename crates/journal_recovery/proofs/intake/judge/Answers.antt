use Rattle.journal_recovery.specs.Intakes.{entries_in}
use Rattle.journal_recovery.proofs.TakenIn.{at_judged}
use Rattle.journal_recovery.proofs.intake.judge.Goals as goal

pub returns-in_err-followed : goal.returns-in_err-followed
returns-in_err-followed g c =
    let S = g.S.EntryJudge in
    at_judged S.entries S.is_legal (entries_in S.keeps c.args.intake) c.from_residual.result c.in_err-followed.field-0.0 c.from_residual.ensures.1
    c.in_err-followed.ensures
