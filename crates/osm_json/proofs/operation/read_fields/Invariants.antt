use Rattle.std.proofs.Common.{◌≡◌, length}
use Rattle.serde_json.specs.Data.{Members}
use Rattle.osm_json.specs.Found.{fields_of}
use Rattle.osm_json.proofs.Turns.{AmongMembers}
use Rattle.osm_json.proofs.operation.read_fields.Given as goal

abbrev pub invariant-loop-found : goal.invariant-loop-found
invariant-loop-found l = (ms : Members) × AmongMembers l.depth l.initial.reader l.reader ms × (l.found ≡ fields_of ms)

abbrev pub decreases-loop-found : goal.decreases-loop-found
decreases-loop-found l = length l.reader
