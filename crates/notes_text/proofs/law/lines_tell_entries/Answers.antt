use Rattle.std.proofs.Common.{◌≡◌, [], Some, sym, ap, ◌∙◌}
use Rattle.json.specs.Lex.{tokens}
use Rattle.notes_core.specs.declared.commands.NoteEntry.{NoteEntry}
use Rattle.notes_text.specs.Line.{line, line_data, IsEntry}
use Rattle.json_line.specs.Read.{Parsed}
use Rattle.notes_text.specs.Read.{entry_next}
use Rattle.notes_text.proofs.Complete.{entry_read}
use Rattle.json_line.proofs.Found.{same_read}
use Rattle.notes_text.proofs.PlainLine.{line_plain}
use Rattle.notes_text.proofs.law.lines_tell_entries.Goals as goal

pub returns : goal.returns
returns c =
    let values = c.values_are_read_again.ensures in
    let read : (e : NoteEntry) → IsEntry e → ◌≡◌ {A = Parsed NoteEntry} (entry_next (tokens (line e))) (Some (e, [])) =
    λ e is. ap entry_next (c.texts_are_read_again.ensures.tokens (line_data e) (line_plain e is)) ∙ entry_read values.natural values.text e is in
    λ e other is is_too same. same_read e other (sym (read e is) ∙ ap (λ text. entry_next (tokens text)) same ∙ read other is_too)
