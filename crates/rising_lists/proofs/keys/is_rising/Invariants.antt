use Rattle.std.proofs.Common.{◌+◌, take}
use Rattle.osm_base.specs.Key.{IsRising}
use Rattle.rising_lists.proofs.keys.is_rising.Given as goal

abbrev pub invariant-loop-place : goal.invariant-loop-place
invariant-loop-place l = IsRising (take (l.place + 1) l.keys)
