use Rattle.std.proofs.Common.{sym, ◌∙◌, ap, ◌++◌, ◌∷◌, List, ℕ, subst}
use Rattle.std.proofs.lemmas.Bool.{false≢true}
use Rattle.journal_file.specs.Device.{LeavesOnly}
use Rattle.journal_file.specs.Whole.{text_of}
use Rattle.journal_file.specs.Settled.{IsSealed, Stands}
use Rattle.journal_file.proofs.Crashes.{settled_text, settled_now, settled_stands, sealed_is}
use Rattle.journal_file.proofs.Moments.{still_start}
use Rattle.journal_file.proofs.file.JournalFile.seal.Goals as goal

pub seal_at-requires-clause-settled : goal.seal_at-requires-clause-settled
seal_at-requires-clause-settled g c = (c.self.invariant.0 c.if-self.false).0

pub invariant_of-self : goal.invariant_of-self
invariant_of-self g c = (
  λ going. (settled_now _ _ _ _ c.in-Ok.ensures.settled, c.in-Ok.ensures.size, c.in-Ok.ensures.fine ∙ (c.self.invariant.0 going).2),
  λ broken. absurd (false≢true (sym c.if-self.false ∙ broken)),
)

pub returns-in-Ok-clause-ok : goal.returns-in-Ok-clause-ok
returns-in-Ok-clause-ok g c = (settled_text _ _ _ _ c.in-Ok.ensures.settled ∙ ap (λ k. k.text) c.self.view_is, c.if-self.false)

pub returns-in-Ok-clause-sealed : goal.returns-in-Ok-clause-sealed
returns-in-Ok-clause-sealed g c =
    let d = g.D.Device in
    let inside = c.self.inside in
    let settled = (c.self.invariant.0 c.if-self.false).0 in
    let w = c.in-Ok.ensures.written in
    subst (λ k. IsSealed k.text (d.seen k.device) (d.seen c.seal_at.new.device)) c.self.view_is
    (sealed_is (text_of (d.seen inside.device)) (d.seen inside.device) (d.seen c.seal_at.new.device) inside.end w.0 settled.roomy settled.place w.1)

pub returns-then-self-ge-MOST-clause-any_moment : goal.returns-then-self-ge-MOST-clause-any_moment
returns-then-self-ge-MOST-clause-any_moment g c = λ going.
    let d = g.D.Device in
    let device = c.self.inside.device in
    let seen = d.seen device in
    let text = text_of seen in
    let settled = (c.self.invariant.0 (ap (λ k. k.broken) c.self.view_is ∙ going)).0 in
    let start = still_start d.moment d.left_since d.may_leave (Stands text) device (g.met.D.Device.only_now device) (settled_stands seen (d.may_leave device) c.self.inside.end text settled) in
    subst (λ k. LeavesOnly d.moment d.left_since k.device k.device (Stands k.text)) c.self.view_is start.run
