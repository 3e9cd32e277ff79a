use Rattle.std.proofs.Common.{◌≡◌, ◌≤◌, ◌++◌, ℕ, length, refl, sym, ◌∙◌, ap, subst, arith, length-append}
use Rattle.std.proofs.lemmas.Bool.{both_ways}
use Rattle.durable_log.specs.Held.{HoldsFrom}
use Rattle.durable_log.specs.Receipts.{AreKept}
use Rattle.durable_log.proofs.Holding.{stays_longer}
use Rattle.durable_log.proofs.ReceiptLemmas.{Given, kept_on, after_give, last_given, more_given}
use Rattle.durable_log.proofs.shelf.Shelf.keep.Goals.{then-give, else-give}
use Rattle.durable_log.proofs.shelf.Shelf.keep.Goals as goal

pub invariant_of-self : goal.invariant_of-self
invariant_of-self g c =
    let d = g.D.Device in
    let text = g.T.Lines.text in
    let held = c.self.inside.front in
    let entries = c.args.entries.now in
    let device = c.keep.new.file.device in
    let all : held ++ entries ≡ c.args.longer = ap (λ l. l ++ entries) (ap (λ s. s.entries) c.self.view_is) ∙ sym c.requires in
    let was : c.self.inside.file.text ≡ text held = c.self.invariant.0 (sym c.is_broken.ensures ∙ c.if-is_broken.false) in
    let kept = kept_on text d.moment d.left_since c.self.inside.file.device device held (held ++ entries) c.self.inside.receipts c.in-Ok.ensures.time
    (omega (arith, length-append held entries)) (λ t k. c.in-Ok.ensures.each held t k was) c.self.invariant.1 in
    let count : length (held ++ entries) ≡ c.len-count.result = ap length all ∙ sym c.len-count.ensures in
    let now = c.in-Ok.ensures.now held was in
    let given = after_give text d.moment d.left_since device (held ++ entries) c.self.inside.receipts c.give.new.receipts c.give.result
    (subst (λ (n : ℕ). Given text d.moment d.left_since device n c.self.inside.receipts c.give.new.receipts c.give.result) (sym count) (c.give.ensures.given, c.give.ensures.kept))
    (subst (λ (n : ℕ). HoldsFrom text d.left_since device (d.moment device) n (held ++ entries)) (sym (length-append held entries)) now) kept in
    (λ going. c.in-Ok.ensures.text held was ∙ ap text all, subst (λ l. AreKept text d.moment d.left_since device l c.give.new.receipts) all given)

pub invariant_of-self-in-Err-File : goal.invariant_of-self-in-Err-File
invariant_of-self-in-Err-File g c =
    let d = g.D.Device in
    let text = g.T.Lines.text in
    let held = c.self.inside.front in
    let entries = c.args.entries.now in
    let device = c.keep.new.file.device in
    let all : held ++ entries ≡ c.args.longer = ap (λ l. l ++ entries) (ap (λ s. s.entries) c.self.view_is) ∙ sym c.requires in
    let was : c.self.inside.file.text ≡ text held = c.self.invariant.0 (sym c.is_broken.ensures ∙ c.if-is_broken.false) in
    let kept = kept_on text d.moment d.left_since c.self.inside.file.device device held (held ++ entries) c.self.inside.receipts c.in-Err-File.ensures.time
    (omega (arith, length-append held entries)) (λ t k. c.in-Err-File.ensures.each held t k was) c.self.invariant.1 in (
      λ going. absurd (both_ways _ going (c.in-Err-File.ensures.failed (rw c.in-Err-File.field-0-is refl))),
      subst (λ l. AreKept text d.moment d.left_since device l c.self.inside.receipts) all kept,
    )

pub returns-after-give-clause-ok : goal.returns-after-give-clause-ok
returns-after-give-clause-ok g c =
    let d = g.D.Device in
    let last = last_given g.T.Lines.text d.moment d.left_since c.keep.new.file.device c.len-count.result c.self.inside.receipts c.give.new.receipts c.give.result (c.give.ensures.given, c.give.ensures.kept) in
    elim c.if-give.branch [
      | then-give w ↦ rw w.result-is (refl, last w.if-give.true ∙ c.len-count.ensures)
      | else-give w ↦ rw w.result-is tt
    ]

pub returns-after-give-clause-receipts : goal.returns-after-give-clause-receipts
returns-after-give-clause-receipts g c =
    let d = g.D.Device in
    more_given g.T.Lines.text d.moment d.left_since c.keep.new.file.device c.len-count.result c.args.self.now.receipts c.self.inside.receipts c.give.new.receipts c.give.result
    (sym (ap (λ s. s.receipts) c.self.view_is)) (c.give.ensures.given, c.give.ensures.kept)

pub returns-then-len-ge-MOST-clause-stays : goal.returns-then-len-ge-MOST-clause-stays
returns-then-len-ge-MOST-clause-stays g c t k enough come =
    stays_longer g.T.Lines.text g.D.Device.left_since c.args.self.now.device c.args.self.now.device t k c.args.self.now.entries c.args.entries.now c.args.longer refl c.requires

pub returns-in-Err-Memory-clause-stays : goal.returns-in-Err-Memory-clause-stays
returns-in-Err-Memory-clause-stays g c t k enough come =
    stays_longer g.T.Lines.text g.D.Device.left_since c.args.self.now.device c.keep.new.file.device t k c.args.self.now.entries c.args.entries.now c.args.longer
    (ap (λ f. f.device) (c.in-Err-Memory.ensures.memory (rw c.in-Err-Memory.field-0-is refl)) ∙ ap (λ s. s.device) c.self.view_is) c.requires

pub returns-in-Err-Full-clause-stays : goal.returns-in-Err-Full-clause-stays
returns-in-Err-Full-clause-stays g c t k enough come =
    stays_longer g.T.Lines.text g.D.Device.left_since c.args.self.now.device c.keep.new.file.device t k c.args.self.now.entries c.args.entries.now c.args.longer
    (ap (λ f. f.device) ((c.in-Err-Full.ensures.full (rw c.in-Err-Full.field-0-is refl)).0) ∙ ap (λ s. s.device) c.self.view_is) c.requires

pub returns-after-give-clause-stays : goal.returns-after-give-clause-stays
returns-after-give-clause-stays g c t k =
    let d = g.D.Device in
    let text = g.T.Lines.text in
    let held = c.self.inside.front in
    let entries = c.args.entries.now in
    let device = c.keep.new.file.device in
    let all : held ++ entries ≡ c.args.longer = ap (λ l. l ++ entries) (ap (λ s. s.entries) c.self.view_is) ∙ sym c.requires in
    let was : c.self.inside.file.text ≡ text held = c.self.invariant.0 (sym c.is_broken.ensures ∙ c.if-is_broken.false) in
    subst (λ s. k ≤ length s.entries → t ≤ d.moment s.device → HoldsFrom text d.left_since s.device t k s.entries → HoldsFrom text d.left_since device t k c.args.longer) c.self.view_is
    (λ enough come holds. subst (λ l. HoldsFrom text d.left_since device t k l) all (c.in-Ok.ensures.each held t k was enough come holds))

pub returns-in-Err-File-clause-stays : goal.returns-in-Err-File-clause-stays
returns-in-Err-File-clause-stays g c t k =
    let d = g.D.Device in
    let text = g.T.Lines.text in
    let held = c.self.inside.front in
    let entries = c.args.entries.now in
    let device = c.keep.new.file.device in
    let all : held ++ entries ≡ c.args.longer = ap (λ l. l ++ entries) (ap (λ s. s.entries) c.self.view_is) ∙ sym c.requires in
    let was : c.self.inside.file.text ≡ text held = c.self.invariant.0 (sym c.is_broken.ensures ∙ c.if-is_broken.false) in
    subst (λ s. k ≤ length s.entries → t ≤ d.moment s.device → HoldsFrom text d.left_since s.device t k s.entries → HoldsFrom text d.left_since device t k c.args.longer) c.self.view_is
    (λ enough come holds. subst (λ l. HoldsFrom text d.left_since device t k l) all (c.in-Err-File.ensures.each held t k was enough come holds))
