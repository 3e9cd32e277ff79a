use Rattle.std.proofs.Common.{List, [], None, length}
use Rattle.serde_json.specs.Data.{Data}
use Rattle.osm_json.specs.Walked.{sight}
use Rattle.osm_json.proofs.Turns.{AmongItems}
use Rattle.osm_json.proofs.Walks.{WalkedBlocks}
use Rattle.osm_json.proofs.blocks.blocks_inside.Given as goal

abbrev pub invariant-loop-alloc : goal.invariant-loop-alloc
invariant-loop-alloc l = (front : List Data) × AmongItems l.depth l.initial.reader l.reader front × WalkedBlocks front ([], None) (sight l.progress)

abbrev pub decreases-loop-alloc : goal.decreases-loop-alloc
decreases-loop-alloc l = length l.reader
