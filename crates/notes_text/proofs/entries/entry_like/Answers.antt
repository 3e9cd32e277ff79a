use Rattle.std.proofs.Common.{sym, ap, ◌∙◌, subst, IsUtf8}
use Rattle.json.specs.Lex.{tokens}
use Rattle.notes_text.specs.Line.{line_data}
use Rattle.json_line.specs.Read.{alone}
use Rattle.notes_text.specs.Read.{entry_next}
use Rattle.notes_text.proofs.Complete.{entry_read}
use Rattle.json_line.proofs.Found.{found_is}
use Rattle.notes_text.proofs.PlainLine.{line_plain}
use Rattle.notes_text.proofs.entries.entry_like.Goals as goal

pub returns-in-Ok : goal.returns-in-Ok
returns-in-Ok c =
    λ e is same.
    let values = c.values_are_read_again.ensures in
    let read = entry_read values.natural values.text e is in
    found_is c.candidate.result _ e c.candidate.ensures (ap (λ ts. alone (entry_next ts)) (ap tokens (c.in-Ok.ensures.cases.0 ∙ same) ∙ c.texts_are_read_again.ensures.tokens (line_data e) (line_plain e is)) ∙ ap alone read)

pub returns-in-Err : goal.returns-in-Err
returns-in-Err c = λ e is same. c.in-Err.ensures.cases.0 (subst IsUtf8 (sym same) is.texts)
