use Rattle.std.proofs.Common.{List, length}
use Rattle.serde_json.specs.Data.{Data}
use Rattle.osm_json.specs.Walked.{sight}
use Rattle.osm_json.proofs.Turns.{AmongItems}
use Rattle.osm_json.proofs.Walks.{WalkedFront}
use Rattle.osm_json.proofs.blocks.elements.Given as goal

abbrev pub invariant-loop-alloc : goal.invariant-loop-alloc
invariant-loop-alloc l = (front : List Data) × AmongItems l.depth l.initial.reader l.reader front × WalkedFront l.action front (sight l.initial.progress) (sight l.progress)

abbrev pub decreases-loop-alloc : goal.decreases-loop-alloc
decreases-loop-alloc l = length l.reader
