use Rattle.std.proofs.Common.{take}
use Rattle.osm_world.specs.World.{state_of}
use Rattle.upload_check.specs.Shifts.{IsShifted, apart}
use Rattle.upload_check.proofs.shifts.shift_each.Given as goal

abbrev pub invariant-loop-place : goal.invariant-loop-place
invariant-loop-place l = IsShifted l.shift (apart l.user (take l.place l.listed) l.left) (state_of l.world).elements l.fn.standings l.standings
