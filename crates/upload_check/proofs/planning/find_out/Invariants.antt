use Rattle.std.proofs.Common.{◌≡◌, ◌+◌, length}
use Rattle.osm_world.specs.World.{state_of}
use Rattle.upload_check.specs.Seen.{Seen}
use Rattle.upload_check.proofs.SoFar.{Ran}
use Rattle.upload_check.proofs.planning.find_out.Given as goal

abbrev pub invariant-loop-place : goal.invariant-loop-place
invariant-loop-place g l = record {
  seen : Seen;
  saw : g.W.Witness.saw l.witness seen;
  run : Ran (state_of l.world).elements l.change l.over seen.rows seen.counted seen.used l.place;
  keys : length l.over.keys ≡ l.place;
  steps : l.steps ≡ l.fn.steps + l.place;
}
