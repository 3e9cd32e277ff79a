use Rattle.std.proofs.Common.{◌≡◌, ◌++◌, take}
use Rattle.std.specs.Prelude.{All}
use Rattle.notes_text.specs.Line.{IsEntry}
use Rattle.notes_text.specs.Text.{lines}
use Rattle.notes_text.proofs.texts.lines_behind.Given as goal

abbrev pub invariant-loop-entry : goal.invariant-loop-entry
invariant-loop-entry l = (l.text.items ≡ l.fn.bytes.items ++ lines (take l.entry-index l.entries)) × All IsEntry (take l.entry-index l.entries)
