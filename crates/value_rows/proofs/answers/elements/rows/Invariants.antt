use Rattle.std.specs.Prelude.{◌≡◌, All, vec_len}
use Rattle.osm_change.specs.Moments.{HasShownStamp}
use Rattle.value_rows.proofs.answers.elements.rows.Given as goal

abbrev pub invariant-loop-one : goal.invariant-loop-one
invariant-loop-one l = (vec_len l.made ≡ l.one-index) × All HasShownStamp l.made.items
