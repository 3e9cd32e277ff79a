use Rattle.std.proofs.Common.{sym, ◌∙◌, ap, subst}
use Rattle.journal_file.specs.Whole.{text_of, IsText}
use Rattle.journal_file.proofs.Crashes.{settled_stands}
use Rattle.journal_file.proofs.Lines.{raw_whole}
use Rattle.journal_file.proofs.file.JournalFile.law.Goals as goal

pub returns-clause-sound : goal.returns-clause-sound
returns-clause-sound g c =
    let d = g.D.Device in
    let inside = c.self.inside in
    λ going crash left.
    let settled = (c.self.invariant.0 (ap (λ k. k.broken) c.self.view_is ∙ going)).0 in
    let here = subst (λ x. d.may_leave x crash) (sym (ap (λ k. k.device) c.self.view_is)) left in
    (settled_stands (d.seen inside.device) (d.may_leave inside.device) inside.end (text_of (d.seen inside.device)) settled crash here).sound

pub returns-clause-text : goal.returns-clause-text
returns-clause-text g c =
    let inside = c.self.inside in
    λ going.
    let settled = (c.self.invariant.0 (ap (λ k. k.broken) c.self.view_is ∙ going)).0 in
    subst (λ k. IsText k.text) c.self.view_is (raw_whole settled.roomy.raw (text_of (g.D.Device.seen inside.device)) settled.roomy.stands)
