use Rattle.std.proofs.Common.{◌≡◌, ◌≤◌, take, length}
use Rattle.serde_json.specs.Data.{Members}
use Rattle.osm_json.specs.Walked.{sight, SeesMembers}
use Rattle.osm_json.proofs.Turns.{AmongMembers}
use Rattle.osm_json.proofs.blocks.entries.Given as goal

abbrev pub invariant-loop-key : goal.invariant-loop-key
invariant-loop-key l =
    (ms : Members) × AmongMembers l.depth l.initial.reader l.reader ms
    × SeesMembers ms (take l.base.start l.initial.progress.ops.items, l.base.fault) (l.found, sight l.progress)
    × (take l.base.start l.progress.ops.items ≡ take l.base.start l.initial.progress.ops.items)
    × (l.base.start ≤ length l.progress.ops.items)

abbrev pub decreases-loop-key : goal.decreases-loop-key
decreases-loop-key l = length l.reader
