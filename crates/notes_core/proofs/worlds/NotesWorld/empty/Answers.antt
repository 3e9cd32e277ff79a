use Rattle.std.proofs.Common.{List, ap, arith}
use Rattle.notes_core.specs.World.{Kept, notes_of, places_of}
use Rattle.notes_core.proofs.Placed.{none_placed}
use Rattle.notes_core.proofs.worlds.NotesWorld.empty.Goals as goal

pub invariant_of-result : goal.invariant_of-result
invariant_of-result c = record {
  timely = omega arith;
  placed = none_placed (places_of (notes_of c.new.result.items)) c.new-2.result (ap (λ (ks : List Kept). places_of (notes_of ks)) c.new.ensures.items) c.new-2.ensures.nodes;
}
