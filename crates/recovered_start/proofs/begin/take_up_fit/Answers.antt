use Rattle.std.proofs.Common.{false, refl, inl, inr}
use Rattle.std.proofs.lemmas.Bool.{both_ways}
use Rattle.recovered_start.proofs.Unfit.{does_not_fit, holds_whole}
use Rattle.recovered_start.proofs.begin.take_up_fit.Goals as goal

pub returns-in-Err-clause-taken : goal.returns-in-Err-clause-taken
returns-in-Err-clause-taken g c = inl (record { why = c.in-Err.why; lacks = c.in-Err.ensures.taken; exit_is = c.exit_of.ensures })

pub returns-clause-taken : goal.returns-clause-taken
returns-clause-taken g c =
    let F = g.J.File.Device in
    let T = g.S.Text.KeptText in
    inr (does_not_fit F.moment F.left_since F.faults g.S.Text.Lines.text T.is_entry g.S.EntryJudge.is_legal g.S.KeptJournal.fits
    c.args.path.now (g.J.Journals.told c.args.journals.now) _ _ _ _ _ _
    c.in-Ok.ensures.taken c.in-Ok.ensures.text c.back.ensures
    c.into_device-device.ensures c.in-Ok.ensures.stands (λ fit. both_ways false refl (c.if-fits.ensures.1 fit)))

pub returns-then-fits-clause-holds : goal.returns-then-fits-clause-holds
returns-then-fits-clause-holds g c =
    let F = g.J.File.Device in
    holds_whole F.moment F.left_since g.S.Text.Lines.text c.in-Ok.taken.1.device c.in-Ok.taken.1.text (g.S.EntryJudge.entries c.in-Ok.taken.0)
    c.in-Ok.ensures.stands c.in-Ok.ensures.sound c.in-Ok.ensures.text
