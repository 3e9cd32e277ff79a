use Rattle.std.proofs.Common.{◌≡◌, codes, option_map, length}
use Rattle.serde_json.specs.Data.{Members}
use Rattle.serde_json.specs.Find.{get_member, as_str}
use Rattle.osm_json.specs.Found.{text_in}
use Rattle.osm_json.proofs.Turns.{AmongMembers}
use Rattle.osm_json.proofs.title.title_members.Given as goal

abbrev pub invariant-loop-key : goal.invariant-loop-key
invariant-loop-key l = (ms : Members) × AmongMembers l.depth l.initial.reader l.reader ms × (option_map text_in l.found ≡ option_map as_str (get_member (codes "title") ms))

abbrev pub decreases-loop-key : goal.decreases-loop-key
decreases-loop-key l = length l.reader
