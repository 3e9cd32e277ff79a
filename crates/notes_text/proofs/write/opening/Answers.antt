use Rattle.std.proofs.Common.{FitsSigned, w32, rules}
use Rattle.std.proofs.lemmas.Int.{to_z-of_z}
use Rattle.notes_text.specs.Line.{command}
use Rattle.notes_text.proofs.write.opening.Goals as goal

pub returns : goal.returns
unfolding command
returns c =
    let lat7 : FitsSigned w32 c.lat7.result = search rules in
    let lon7 : FitsSigned w32 c.lon7.result = search rules in
    let shown = simp (c.as_str.ensures, c.units.ensures, c.units-2.ensures) at c.record.ensures in
    simp (c.lat7.ensures, c.lon7.ensures) at (simp to_z-of_z at shown)
