use Rattle.std.proofs.Common.{◌≡◌, map, take}
use Rattle.map_machine.specs.Copied.{whole_row}
use Rattle.map_machine.proofs.copied.whole_rows.Given as goal

abbrev pub invariant-loop-row : goal.invariant-loop-row
invariant-loop-row l = l.made.items ≡ map (whole_row l.lists l.owners) (take l.row-index l.rows)
