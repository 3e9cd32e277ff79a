use Rattle.std.proofs.Common.{refl, ap}
use Rattle.notes_core.specs.World.{notes_of, places_of}
use Rattle.notes_core.proofs.Placed.{still_placed}
use Rattle.notes_core.proofs.worlds.NotesWorld.room_for_comment.Goals as goal

pub invariant_of-self : goal.invariant_of-self
invariant_of-self c = record {
  timely = c.self.invariant.timely;
  placed = still_placed (places_of (notes_of c.self.inside.kept.items)) (places_of (notes_of c.take_room.new.kept.items)) c.self.inside.cells c.self.inside.cells c.self.invariant.placed
      (ap places_of c.take_room.ensures.notes)
      (λ cell id. refl);
}
