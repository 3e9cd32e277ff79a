use Rattle.std.proofs.Common.{List, length}
use Rattle.serde_json.specs.Data.{Data}
use Rattle.osm_json.specs.Reading.{id_of}
use Rattle.osm_json.proofs.Each.{ReadFront}
use Rattle.osm_json.proofs.Turns.{AmongItems}
use Rattle.osm_json.proofs.lists.ids_inside.Given as goal

abbrev pub invariant-loop-reader : goal.invariant-loop-reader
invariant-loop-reader l = (front : List Data) × AmongItems l.depth l.initial.reader l.reader front × ReadFront id_of front l.found.items

abbrev pub decreases-loop-reader : goal.decreases-loop-reader
decreases-loop-reader l = length l.reader
