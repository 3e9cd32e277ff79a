use Rattle.std.proofs.Common.{List, length}
use Rattle.serde_json.specs.Data.{Data}
use Rattle.osm_json.specs.Reading.{reference_of}
use Rattle.osm_json.proofs.Each.{ReadFront}
use Rattle.osm_json.proofs.Turns.{AmongItems}
use Rattle.osm_json.proofs.lists.references_inside.Given as goal

abbrev pub invariant-loop-alloc : goal.invariant-loop-alloc
invariant-loop-alloc l = (front : List Data) × AmongItems l.depth l.initial.reader l.reader front × ReadFront reference_of front l.found.items

abbrev pub decreases-loop-alloc : goal.decreases-loop-alloc
decreases-loop-alloc l = length l.reader
