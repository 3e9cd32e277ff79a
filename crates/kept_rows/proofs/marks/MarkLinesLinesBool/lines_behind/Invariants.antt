use Rattle.std.proofs.Common.{◌≡◌, ◌++◌, take, flat_map}
use Rattle.kept_rows.specs.Marks.{mark_line}
use Rattle.kept_rows.proofs.marks.MarkLinesLinesBool.lines_behind.Given as goal

abbrev pub invariant-marks : goal.invariant-marks
invariant-marks l = l.longer.items ≡ l.fn.bytes.items ++ flat_map mark_line (take l.mark-index l.entries)
