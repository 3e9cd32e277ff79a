use Rattle.std.proofs.Common.{◌≡◌, [], Some, sym, ap, ◌∙◌}
use Rattle.json.specs.Lex.{tokens}
use Rattle.osm_model.specs.declared.commands.Entry.{Entry}
use Rattle.journal_text.specs.Line.{line, line_data, IsEntry}
use Rattle.json_line.specs.Read.{Parsed}
use Rattle.journal_text.specs.Read.{entry_next}
use Rattle.journal_text.proofs.Complete.{entry_read}
use Rattle.json_line.proofs.Found.{same_read}
use Rattle.journal_text.proofs.PlainLine.{line_plain}
use Rattle.journal_text.proofs.law.lines_tell_entries.Goals as goal

pub returns : goal.returns
returns c =
    let parts = c.parts_are_read_again.ensures in
    let values = c.values_are_read_again.ensures in
    let read : (e : Entry) → IsEntry e → ◌≡◌ {A = Parsed Entry} (entry_next (tokens (line e))) (Some (e, [])) =
    λ e is.
    ap entry_next (c.texts_are_read_again.ensures.tokens (line_data e) (line_plain parts.tags parts.change e is))
    ∙ entry_read values.natural values.flag values.text values.kind parts.tags_again parts.change_again c.changes_are_read_again.ensures.same e is in
    λ e other is is_too same. same_read e other (sym (read e is) ∙ ap (λ text. entry_next (tokens text)) same ∙ read other is_too)
