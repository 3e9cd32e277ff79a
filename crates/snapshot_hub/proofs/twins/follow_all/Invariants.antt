use Rattle.std.specs.Prelude.{take}
use Rattle.snapshot_hub.proofs.Followed.{Follows}
use Rattle.snapshot_hub.proofs.twins.follow_all.Given as goal

-- the world followed the entries before the place
abbrev pub invariant-loop-place : goal.invariant-loop-place
invariant-loop-place g l =
    Follows g.M.Machine.rules (g.M.Machine.state l.fn.world) (g.M.Machine.state l.world) (take l.place l.entries)
