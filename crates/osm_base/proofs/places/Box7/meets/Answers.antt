use Rattle.std.proofs.Common.{arith}
use Rattle.std.proofs.lemmas.Int.{to_z-of_z}
use Rattle.osm_base.proofs.places.Box7.meets.Goals as goal

pub returns-then-do_meet : goal.returns-then-do_meet
returns-then-do_meet c = grind (arith, to_z-of_z)
