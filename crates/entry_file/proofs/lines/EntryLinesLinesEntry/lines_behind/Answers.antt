use Rattle.std.proofs.Common.{refl}
use Rattle.journal_recovery.proofs.WholeEntries.{have_one}
use Rattle.line_text.specs.Lines.{lines_of}
use Rattle.journal_text.specs.Line.{line, IsEntry}
use Rattle.entry_file.proofs.lines.EntryLinesLinesEntry.lines_behind.Goals as goal

pub returns-clause-whole : goal.returns-clause-whole
returns-clause-whole c =
    let plain = c.lines_are_plain.ensures in
    let entries = c.args.entries.now in
    (c.lines_law.ensures line (lines_of line) refl (λ e es. refl) entries (have_one line IsEntry plain.begins plain.one plain.full entries c.in_ok-longer.ensures.typed)).0

pub returns-clause-each : goal.returns-clause-each
returns-clause-each c =
    let plain = c.lines_are_plain.ensures in
    let entries = c.args.entries.now in
    (c.lines_law.ensures line (lines_of line) refl (λ e es. refl) entries (have_one line IsEntry plain.begins plain.one plain.full entries c.in_ok-longer.ensures.typed)).1
