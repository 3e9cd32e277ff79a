use Rattle.std.proofs.Common.{FitsSigned, w32, rules}
use Rattle.std.proofs.lemmas.Int.{to_z-of_z}
use Rattle.notes_core.proofs.send.write_position.Goals as goal

pub returns : goal.returns
returns c =
    let lat7 : FitsSigned w32 c.lat7.result = search rules in
    let lon7 : FitsSigned w32 c.lon7.result = search rules in
    let shown = simp (c.units.ensures, c.units-2.ensures) at c.in_ok-members.ensures in
    simp (c.lat7.ensures, c.lon7.ensures) at (simp to_z-of_z at shown)
