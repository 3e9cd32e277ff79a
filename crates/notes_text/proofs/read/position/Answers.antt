use Rattle.std.proofs.Common.{FitsSigned, w32, rules}
use Rattle.std.proofs.lemmas.Int.{to_z-of_z}
use Rattle.notes_text.proofs.Coordinates.{positioned}
use Rattle.notes_text.proofs.read.position.Goals as goal

pub returns : goal.returns
returns c =
    let lat7 : FitsSigned w32 c.in_ok-lat7.lat7 = search rules in
    let lon7 : FitsSigned w32 c.in_ok-lon7.lon7 = search rules in
    positioned _ _ _ _ _ _ c.in_ok-lat7.ensures c.in_ok-lon7.ensures (simp to_z-of_z at (c.place.ensures c.coordinate-2.new.reader))
