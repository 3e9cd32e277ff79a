use Rattle.std.proofs.Common.{◌+◌, ◌*◌, List, length}
use Rattle.serde_json.specs.Data.{Data, Members}
use Rattle.osm_json.proofs.Turns.{AmongItems, AmongMembers}
use Rattle.osm_json.proofs.pass.+pass.Given as goal

abbrev pub decreases-pass_rest : goal.decreases-pass_rest
decreases-pass_rest l = 2 * l.depth

abbrev pub decreases-pass_items : goal.decreases-pass_items
decreases-pass_items l = 2 * l.depth + 1

abbrev pub decreases-pass_members : goal.decreases-pass_members
decreases-pass_members l = 2 * l.depth + 1

abbrev pub invariant-pass_items-loop-reader : goal.invariant-pass_items-loop-reader
invariant-pass_items-loop-reader l = (front : List Data) × AmongItems l.depth l.initial.reader l.reader front

abbrev pub decreases-pass_items-loop-reader : goal.decreases-pass_items-loop-reader
decreases-pass_items-loop-reader l = length l.reader

abbrev pub invariant-pass_members-loop-reader : goal.invariant-pass_members-loop-reader
invariant-pass_members-loop-reader l = (found : Members) × AmongMembers l.depth l.initial.reader l.reader found

abbrev pub decreases-pass_members-loop-reader : goal.decreases-pass_members-loop-reader
decreases-pass_members-loop-reader l = length l.reader
