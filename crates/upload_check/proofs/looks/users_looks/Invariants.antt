use Rattle.std.proofs.Common.{◌≡◌, ◌++◌, map, drop}
use Rattle.osm_later.specs.Plan.{users_look}
use Rattle.osm_world.specs.World.{state_of}
use Rattle.upload_check.proofs.looks.users_looks.Given as goal

abbrev pub invariant-loop-key : goal.invariant-loop-key
invariant-loop-key l = map (users_look (state_of l.world).elements) l.keys ≡ l.looks.items ++ map (users_look (state_of l.world).elements) (drop l.key-index l.keys)
