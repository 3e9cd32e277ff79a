use Rattle.std.proofs.Common.{ℕ, List, sym, subst}
use Rattle.journal_file.specs.Whole.{BeginsWith}
use Rattle.journal_file.specs.Settled.{Keeps}
use Rattle.journal_recovery.proofs.Causes.{not_failed}
use Rattle.journal_recovery.proofs.Moments.{leaves_now, all_stand}
use Rattle.journal_recovery.proofs.restarting.restart.Goals as goal

pub returns-in-Err-Foreign-default-clause-cause : goal.returns-in-Err-Foreign-default-clause-cause
returns-in-Err-Foreign-default-clause-cause g c entries typed legal same =
    let begins = subst (λ (l : List ℕ). BeginsWith l c.args.file.now) (sym c.header.ensures.header) c.in-Ok.ensures.begins in
    (c.in-Err-Foreign-default.ensures.foreign c.in-Err-Foreign-default.field-0-0-is).1 begins

pub returns-in-Ok-open_sealed-clause-stands : goal.returns-in-Ok-open_sealed-clause-stands
returns-in-Ok-open_sealed-clause-stands g c = λ crash left.
    let device = g.D.Device in
    let keeps =
    leaves_now device.moment device.left_since device.may_leave g.met.D.Device.counts_now g.met.D.Device.only_now c.args.device c.in-Ok-open_sealed.open.device
    (Keeps c.args.file.now) c.in-Ok-open_sealed.ensures.any_moment crash left in keeps.is

pub returns-in-Err-Foreign-default-clause-stands : goal.returns-in-Err-Foreign-default-clause-stands
returns-in-Err-Foreign-default-clause-stands g c = λ crash left.
    let device = g.D.Device in
    let keeps =
    leaves_now device.moment device.left_since device.may_leave g.met.D.Device.counts_now g.met.D.Device.only_now c.args.device c.in-Err-Foreign-default.device
    (Keeps c.args.file.now) c.in-Err-Foreign-default.ensures.any_moment_err crash left in keeps.is

pub returns-in-Ok-open_sealed-clause-sound : goal.returns-in-Ok-open_sealed-clause-sound
returns-in-Ok-open_sealed-clause-sound g c = λ crash left damaged.
    let device = g.D.Device in
    let keeps =
    leaves_now device.moment device.left_since device.may_leave g.met.D.Device.counts_now g.met.D.Device.only_now c.args.device c.in-Ok-open_sealed.open.device
    (Keeps c.args.file.now) c.in-Ok-open_sealed.ensures.any_moment crash left in c.in-Ok.ensures.sound (keeps.sound damaged)

pub returns-in-Ok-open_sealed-clause-any_moment : goal.returns-in-Ok-open_sealed-clause-any_moment
returns-in-Ok-open_sealed-clause-any_moment g c =
    let device = g.D.Device in
    all_stand device.moment device.left_since c.args.device c.in-Ok-open_sealed.open.device c.args.file.now c.in-Ok.ensures.sound c.in-Ok-open_sealed.ensures.any_moment

pub returns-in-Err-clause-sound : goal.returns-in-Err-clause-sound
returns-in-Err-clause-sound g c = λ failed.
    absurd (not_failed g.T.Lines.text g.T.KeptText.is_entry g.S.EntryJudge.is_legal c.in-Err.fault c.args.file.now c.in-Err.ensures.cause failed)
