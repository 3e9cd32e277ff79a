use Rattle.std.proofs.Common.{sym, ◌∙◌, ap, ◌++◌, List, ℕ, subst}
use Rattle.std.proofs.lemmas.Bool.{false≢true}
use Rattle.journal_file.specs.Device.{LeavesOnly}
use Rattle.journal_file.specs.Whole.{text_of, whole}
use Rattle.journal_file.specs.Settled.{HasSome, Stands}
use Rattle.journal_file.proofs.Crashes.{none_yet, settled_text, settled_now, settled_stands}
use Rattle.journal_file.proofs.Moments.{weaker, still_start}
use Rattle.journal_file.proofs.file.JournalFile.append.Goals as goal

pub add_batch-requires-clause-settled : goal.add_batch-requires-clause-settled
add_batch-requires-clause-settled g c = (c.self.invariant.0 c.if-self.false).0

pub invariant_of-self : goal.invariant_of-self
invariant_of-self g c = (
  λ going. (settled_now _ _ _ _ c.in-Ok.ensures.settled, c.in-Ok.ensures.size, c.in-Ok.ensures.fine ∙ (c.self.invariant.0 going).2),
  λ broken. absurd (false≢true (sym c.if-self.false ∙ broken)),
)

pub returns-in-Ok-clause-ok : goal.returns-in-Ok-clause-ok
returns-in-Ok-clause-ok g c =
    (settled_text _ _ _ _ c.in-Ok.ensures.settled ∙ ap (λ (l : List ℕ). l ++ whole c.args.batch.now) (ap (λ k. k.text) c.self.view_is), c.if-self.false)

pub returns-then-self-ge-MOST-clause-any_moment : goal.returns-then-self-ge-MOST-clause-any_moment
returns-then-self-ge-MOST-clause-any_moment g c = λ going.
    let d = g.D.Device in
    let device = c.self.inside.device in
    let seen = d.seen device in
    let text = text_of seen in
    let settled = (c.self.invariant.0 (ap (λ k. k.broken) c.self.view_is ∙ going)).0 in
    let start = still_start d.moment d.left_since d.may_leave (Stands text) device (g.met.D.Device.only_now device) (settled_stands seen (d.may_leave device) c.self.inside.end text settled) in
    let P = HasSome text (whole c.args.batch.now) in
    subst (λ k. LeavesOnly d.moment d.left_since k.device k.device (HasSome k.text (whole c.args.batch.now))) c.self.view_is
    (weaker d.moment d.left_since device device (Stands text) P (λ f stands. none_yet text (whole c.args.batch.now) f stands) start.run)

pub returns-then-batch-lt2-clause-any_moment : goal.returns-then-batch-lt2-clause-any_moment
returns-then-batch-lt2-clause-any_moment g c = λ going.
    let d = g.D.Device in
    let device = c.self.inside.device in
    let seen = d.seen device in
    let text = text_of seen in
    let settled = (c.self.invariant.0 (ap (λ k. k.broken) c.self.view_is ∙ going)).0 in
    let start = still_start d.moment d.left_since d.may_leave (Stands text) device (g.met.D.Device.only_now device) (settled_stands seen (d.may_leave device) c.self.inside.end text settled) in
    let P = HasSome text (whole c.args.batch.now) in
    subst (λ k. LeavesOnly d.moment d.left_since k.device k.device (HasSome k.text (whole c.args.batch.now))) c.self.view_is
    (weaker d.moment d.left_since device device (Stands text) P (λ f stands. none_yet text (whole c.args.batch.now) f stands) start.run)
