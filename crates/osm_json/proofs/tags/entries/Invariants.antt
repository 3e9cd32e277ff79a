use Rattle.std.proofs.Common.{length}
use Rattle.serde_json.specs.Data.{Members}
use Rattle.osm_json.proofs.Texts.{IsRead}
use Rattle.osm_json.proofs.Turns.{AmongMembers}
use Rattle.osm_json.proofs.tags.entries.Given as goal

abbrev pub invariant-loop-found : goal.invariant-loop-found
invariant-loop-found l = (ms : Members) × AmongMembers l.depth l.initial.reader l.reader ms × IsRead l.found ms

abbrev pub decreases-loop-found : goal.decreases-loop-found
decreases-loop-found l = length l.reader
