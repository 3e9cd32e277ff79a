use Rattle.std.proofs.Common.{◌≡◌, ◌≤◌, length, refl, sym, ◌∙◌, ap, subst, arith}
use Rattle.std.proofs.lemmas.Bool.{both_ways}
use Rattle.durable_log.specs.Held.{HoldsFrom}
use Rattle.durable_log.proofs.Holding.{run_stands}
use Rattle.durable_log.proofs.ReceiptLemmas.{kept_on}
use Rattle.durable_log.proofs.shelf.Shelf.seal.Goals.{in-Ok, in-Err-Full, in-Err-Failed}
use Rattle.durable_log.proofs.shelf.Shelf.seal.Goals as goal

pub invariant_of-self : goal.invariant_of-self
invariant_of-self g c =
    let d = g.D.Device in
    let text = g.T.Lines.text in
    let inside = c.self.inside in
    let held = inside.front in
    let old = inside.file.device in
    let new = c.seal.new.self.device in
    let going = sym c.is_broken.ensures ∙ c.if-is_broken.false in
    let was : inside.file.text ≡ text held = c.self.invariant.0 going in
    let run = c.seal.ensures.any_moment going in
    let kept = kept_on text d.moment d.left_since old new held held inside.receipts run.later (omega arith)
    (λ t k enough le. run_stands text d.moment d.left_since old new inside.file.text held t k run was enough le) c.self.invariant.1 in (
      λ now. elim c.match-seal.branch [
        | in-Ok w ↦ w.in-Ok.ensures.ok.0 ∙ was
        | in-Err-Full w ↦ ap (λ f. f.text) (w.in-Err-Full.ensures.full (rw w.in-Err-Full.field-0-is refl)).0 ∙ was
        | in-Err-Failed w ↦ absurd (both_ways _ now (w.in-Err-Failed.ensures.failed (rw w.in-Err-Failed.field-0-is refl)).0)
      ],
      kept,
    )

pub returns-clause-stays : goal.returns-clause-stays
returns-clause-stays g c t k =
    let d = g.D.Device in
    let text = g.T.Lines.text in
    let inside = c.self.inside in
    let held = inside.front in
    let old = inside.file.device in
    let new = c.seal.new.self.device in
    let going = sym c.is_broken.ensures ∙ c.if-is_broken.false in
    let was : inside.file.text ≡ text held = c.self.invariant.0 going in
    let run = c.seal.ensures.any_moment going in
    subst (λ s. k ≤ length s.entries → t ≤ d.moment s.device → HoldsFrom text d.left_since s.device t k s.entries → HoldsFrom text d.left_since new t k s.entries) c.self.view_is
    (λ enough le. run_stands text d.moment d.left_since old new inside.file.text held t k run was enough le)
