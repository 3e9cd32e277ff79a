use Rattle.std.proofs.lemmas.Bool.{true≢false}
use Rattle.std.proofs.Common.{sym, ◌∙◌}
use Rattle.journal_file.proofs.Scans.{no_line}
use Rattle.journal_file.proofs.text.next_line.Goals as goal

pub returns-clause-none : goal.returns-clause-none
returns-clause-none c none =
    no_line c.args.bytes.now (λ p. true≢false (sym (c.begins_with.ensures.1 p) ∙ c.if-begins_with.false)) (λ p. true≢false (sym (c.begins_with-2.ensures.1 p) ∙ c.if-begins_with-2.false))
