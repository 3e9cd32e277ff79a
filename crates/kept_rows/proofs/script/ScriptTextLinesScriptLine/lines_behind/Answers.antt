use Rattle.std.proofs.Common.{refl}
use Rattle.std.specs.Prelude.{⊤}
use Rattle.journal_recovery.proofs.WholeEntries.{have_one}
use Rattle.kept_rows.specs.Script.{script_line, script_lines}
use Rattle.kept_rows.proofs.ScriptLemmas.{begins, one_line, full, more, all_typed}
use Rattle.kept_rows.proofs.script.ScriptTextLinesScriptLine.lines_behind.Goals as goal

pub returns-clause-whole : goal.returns-clause-whole
returns-clause-whole c =
    let entries = c.args.entries.now in
    (c.lines_law.ensures script_line script_lines refl more entries (have_one script_line (λ _. ⊤) begins (λ e typed. one_line e) (λ e typed. full e) entries (all_typed entries))).0

pub returns-clause-each : goal.returns-clause-each
returns-clause-each c =
    let entries = c.args.entries.now in
    (c.lines_law.ensures script_line script_lines refl more entries (have_one script_line (λ _. ⊤) begins (λ e typed. one_line e) (λ e typed. full e) entries (all_typed entries))).1
