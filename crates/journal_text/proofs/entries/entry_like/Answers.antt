use Rattle.std.proofs.Common.{sym, ap, ◌∙◌, subst, IsUtf8}
use Rattle.json.specs.Lex.{tokens}
use Rattle.journal_text.specs.Line.{line_data}
use Rattle.json_line.specs.Read.{alone}
use Rattle.journal_text.specs.Read.{entry_next}
use Rattle.journal_text.proofs.Complete.{entry_read}
use Rattle.json_line.proofs.Found.{found_is}
use Rattle.journal_text.proofs.PlainLine.{line_plain}
use Rattle.journal_text.proofs.entries.entry_like.Goals as goal

pub returns-in-Ok : goal.returns-in-Ok
returns-in-Ok c =
    λ e is same.
    let parts = c.parts_are_read_again.ensures in
    let values = c.values_are_read_again.ensures in
    let plain = line_plain parts.tags parts.change e is in
    let read = entry_read values.natural values.flag values.text values.kind parts.tags_again parts.change_again c.changes_are_read_again.ensures.same e is in
    found_is c.candidate.result _ e c.candidate.ensures (ap (λ ts. alone (entry_next ts)) (ap tokens (c.in-Ok.ensures.cases.0 ∙ same) ∙ c.texts_are_read_again.ensures.tokens (line_data e) plain) ∙ ap alone read)

pub returns-in-Err : goal.returns-in-Err
returns-in-Err c = λ e is same. c.in-Err.ensures.cases.0 (subst IsUtf8 (sym same) is.texts)
