use Rattle.std.proofs.Common.{◌≡◌, ◌++◌, take, flat_map}
use Rattle.kept_rows.specs.Script.{ended_line}
use Rattle.kept_rows.proofs.script.ScriptTextLinesScriptLine.lines_behind.Given as goal

abbrev pub invariant-lines : goal.invariant-lines
invariant-lines l = l.longer.items ≡ l.fn.bytes.items ++ flat_map ended_line (take l.line-index l.entries)
