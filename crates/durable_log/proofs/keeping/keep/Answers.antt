use Rattle.std.proofs.Common.{◌≡◌, ◌+◌, ◌++◌, inl, inr, ℕ, List, length, sym, ◌∙◌, ap, subst, arith, length-append}
use Rattle.std.proofs.lemmas.Bool.{cases_Bool}
use Rattle.journal_file.specs.Settled.{Stands}
use Rattle.journal_file.specs.Whole.{whole}
use Rattle.durable_log.proofs.Holding.{holds_longer, holds_all, run_holds}
use Rattle.durable_log.proofs.keeping.keep.Goals as goal

pub returns-in-Ok-clause-now : goal.returns-in-Ok-clause-now
returns-in-Ok-clause-now g c =
    let d = g.D.Device in
    let old = c.args.file.now in
    let new = c.append.new.self in
    let entries = c.args.entries.now in
    let adds : whole c.deref.result.now ≡ g.T.Lines.lines entries = ap whole c.deref.ensures.value ∙ c.in_ok-batch.ensures.lines in
    λ held is f left.
    let now = g.met.D.Device.only_now new.device f left in
    let going = c.in-Ok.ensures.ok.1 in
    let stands : Stands new.text f = record { is = c.law.ensures.stands going f now; sound = c.law.ensures.sound going f now } in
    let text =
    c.in-Ok.ensures.ok.0
    ∙ ap (λ (l : List ℕ). l ++ whole c.deref.result.now) is
    ∙ ap (λ (l : List ℕ). g.T.Lines.text held ++ l) adds
    ∙ sym (g.met.T.Lines.more held entries) in
    holds_all g.T.Lines.text (length held + length entries) (held ++ entries) f new.text (omega (arith, length-append held entries)) stands text

pub returns-in-Ok-clause-each : goal.returns-in-Ok-clause-each
returns-in-Ok-clause-each g c =
    let d = g.D.Device in
    let old = c.args.file.now in
    let new = c.append.new.self in
    let entries = c.args.entries.now in
    let adds : whole c.deref.result.now ≡ g.T.Lines.lines entries = ap whole c.deref.ensures.value ∙ c.in_ok-batch.ensures.lines in
    λ held t k is enough le holds. elim (cases_Bool old.broken) [
      | inl was_broken ↦
          let same = ap (λ k. k.device) (c.append.ensures.broken was_broken).1 in
          λ f left. holds_longer g.T.Lines.text k held entries f (holds f (subst (λ x. d.left_since x t f) same left))
      | inr going ↦
          run_holds g.T.Lines.text g.T.Lines.lines g.met.T.Lines.more d.moment d.left_since old.device new.device old.text (whole c.deref.result.now) held entries t k
          (c.append.ensures.any_moment going) c.in_ok-batch.ensures.each is adds enough le holds
    ]

pub returns-clause-each : goal.returns-clause-each
returns-clause-each g c =
    let d = g.D.Device in
    let old = c.args.file.now in
    let new = c.append.new.self in
    let entries = c.args.entries.now in
    let adds : whole c.deref.result.now ≡ g.T.Lines.lines entries = ap whole c.deref.ensures.value ∙ c.in_ok-batch.ensures.lines in
    λ held t k is enough le holds. elim (cases_Bool old.broken) [
      | inl was_broken ↦
          let same = ap (λ k. k.device) (c.append.ensures.broken was_broken).1 in
          λ f left. holds_longer g.T.Lines.text k held entries f (holds f (subst (λ x. d.left_since x t f) same left))
      | inr going ↦
          run_holds g.T.Lines.text g.T.Lines.lines g.met.T.Lines.more d.moment d.left_since old.device new.device old.text (whole c.deref.result.now) held entries t k
          (c.append.ensures.any_moment going) c.in_ok-batch.ensures.each is adds enough le holds
    ]
