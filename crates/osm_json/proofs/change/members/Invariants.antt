use Rattle.std.proofs.Common.{◌≡◌, codes, option_map, length}
use Rattle.serde_json.specs.Data.{Members}
use Rattle.serde_json.specs.Find.{get_member}
use Rattle.osm_json.specs.Walked.{sight, walk_document}
use Rattle.osm_json.proofs.Turns.{AmongMembers}
use Rattle.osm_json.proofs.change.members.Given as goal

abbrev pub invariant-loop-found : goal.invariant-loop-found
invariant-loop-found l = (ms : Members) × AmongMembers l.depth l.initial.reader l.reader ms × (option_map sight l.found ≡ walk_document (get_member (codes "osmChange") ms))

abbrev pub decreases-loop-found : goal.decreases-loop-found
decreases-loop-found l = length l.reader
