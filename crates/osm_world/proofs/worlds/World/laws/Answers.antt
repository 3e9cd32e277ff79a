use Rattle.std.proofs.Common.{subst}
use Rattle.osm_world.specs.World.{Parts, IsKept, state_of}
use Rattle.osm_world.proofs.worlds.World.laws.Goals as goal

pub returns : goal.returns
returns c =
    let P : Parts → Type 0 = λ W. IsKept (state_of W) in
    subst P c.self.view_is c.self.invariant.kept
