use Rattle.std.proofs.Common.{◌≡◌, length}
use Rattle.serde_json.specs.Data.{Members}
use Rattle.osm_json.specs.Found.{parts_view, parts_of}
use Rattle.osm_json.proofs.Turns.{AmongMembers}
use Rattle.osm_json.proofs.lists.read_parts.Given as goal

abbrev pub invariant-loop-key : goal.invariant-loop-key
invariant-loop-key l = (ms : Members) × AmongMembers l.depth l.initial.reader l.reader ms × (parts_view l.found ≡ parts_of ms)

abbrev pub decreases-loop-key : goal.decreases-loop-key
decreases-loop-key l = length l.reader
