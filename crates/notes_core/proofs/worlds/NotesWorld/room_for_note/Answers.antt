use Rattle.std.proofs.Common.{List, ap, ◌∙◌}
use Rattle.notes_core.specs.World.{Kept, notes_of, places_of}
use Rattle.notes_core.proofs.Placed.{still_placed}
use Rattle.notes_core.proofs.worlds.NotesWorld.room_for_note.Goals as goal

pub invariant_of-self-2 : goal.invariant_of-self-2
invariant_of-self-2 c = record {
  timely = c.self.invariant.timely;
  placed = still_placed (places_of (notes_of c.self.inside.kept.items)) (places_of (notes_of c.reserve.new.self.items)) c.self.inside.cells c.room.new.self c.self.invariant.placed
      (ap (λ (ks : List Kept). places_of (notes_of ks)) c.reserve.ensures.items)
      (λ cell id. c.room.ensures.nodes cell id ∙ c.forget.ensures.nodes cell id);
}
