use Rattle.std.proofs.Common.{◌≡◌, drop}
use Rattle.osm_later.specs.Still.{still_counted}
use Rattle.osm_world.specs.World.{state_of}
use Rattle.upload_check.proofs.stills.still_counted.Given as goal

abbrev pub invariant-loop-look : goal.invariant-loop-look
invariant-loop-look l = still_counted (state_of l.world).elements l.looks ≡ still_counted (state_of l.world).elements (drop l.look-index l.looks)
