use Rattle.std.proofs.Common.{sym, ◌∙◌, ap, subst, List, ℕ, false}
use Rattle.std.proofs.lemmas.Bool.{false≢true}
use Rattle.journal_file.specs.Whole.{text_of, IsText}
use Rattle.journal_file.specs.Settled.{kept}
use Rattle.journal_file.proofs.Crashes.{settled_text, settled_now}
use Rattle.journal_file.proofs.Lines.{begins_text}
use Rattle.journal_file.proofs.file.JournalFile.open.Goals as goal

pub repair-requires-clause-text : goal.repair-requires-clause-text
repair-requires-clause-text g c =
    let front = c.begins_with.ensures.0 c.if-not-begins_with.false in
    subst (λ (l : List ℕ). IsText (text_of l)) (sym front.1) (begins_text c.args.header.now front.0 c.requires.header)

pub invariant_of-result : goal.invariant_of-result
invariant_of-result g c = (
  λ going. (settled_now _ _ _ _ c.in-Ok.ensures.settled, c.in-Ok.ensures.size, c.in-Ok.ensures.fine ∙ c.requires.fine),
  λ broken. absurd (false≢true broken),
)

pub returns-in-Ok-clause-ok : goal.returns-in-Ok-clause-ok
returns-in-Ok-clause-ok g c =
    (ap (λ (l : List ℕ). kept c.repair.new.device l false) (settled_text _ _ _ _ c.in-Ok.ensures.settled), c.begins_with.ensures.0 c.if-not-begins_with.false)
