use Rattle.std.proofs.Common.{arith}
use Rattle.std.proofs.lemmas.Int.{to_z-of_z}
use Rattle.osm_base.proofs.places.Box7.holds.Goals as goal

pub returns-then-is_between : goal.returns-then-is_between
returns-then-is_between c = grind (arith, to_z-of_z)
