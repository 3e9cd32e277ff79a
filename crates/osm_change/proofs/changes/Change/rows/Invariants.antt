use Rattle.std.proofs.Common.{◌≡◌, ◌++◌, drop}
use Rattle.osm_change.specs.Rows.{rows, rows_among}
use Rattle.osm_change.proofs.changes.Change.rows.Given as goal

abbrev pub invariant-loop-place : goal.invariant-loop-place
invariant-loop-place l =
    rows l.self l.keys l.done ≡ l.rows.items ++ rows_among l.self (drop l.place l.operations) (drop l.place l.keys) (drop l.place l.done)
