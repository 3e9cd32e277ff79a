use Rattle.std.proofs.Common.{◌-◌, List, length, refl, ap, ◌∙◌, arith}
use Rattle.notes_core.specs.Act.{commented}
use Rattle.notes_core.specs.World.{Parts, notes_of, places_of}
use Rattle.notes_core.specs.declared.notes.Note.{Note}
use Rattle.notes_core.proofs.Lists.{put-same}
use Rattle.notes_core.proofs.Judged.{some_at}
use Rattle.notes_core.proofs.Placed.{still_placed}
use Rattle.notes_core.proofs.worlds.NotesWorld.add.Goals as goal

pub invariant_of-self : goal.invariant_of-self
invariant_of-self c =
    let ns : List Note = notes_of c.self.inside.kept.items in
    let place = c.args.id - 1 in
    let len = ap (λ (W : Parts). length (notes_of W.kept)) c.self.view_is in
    let there = some_at ns place (omega (arith, len, c.requires.counted, c.requires.known)) in
    record {
      timely = c.requires.timely;
      placed = still_placed (places_of ns) (places_of (notes_of c.add_comment.new.kept.items)) c.self.inside.cells c.self.inside.cells c.self.invariant.placed
          (ap places_of (c.add_comment.ensures there.0 there.1) ∙ put-same (λ (n : Note). n.at) ns place there.0 (commented there.0 c.args.comment) there.1 refl)
          (λ cell id. refl);
    }
