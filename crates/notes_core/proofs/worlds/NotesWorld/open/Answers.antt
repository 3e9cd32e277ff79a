use Rattle.std.proofs.Common.{◌≡◌, ◌∷◌, [], ◌++◌, List, ap, ◌∙◌, arith}
use Rattle.osm_base.specs.Place.{Position}
use Rattle.notes_core.specs.World.{Kept, notes_of, places_of}
use Rattle.notes_core.specs.declared.notes.Note.{Note}
use Rattle.notes_core.proofs.Lists.{map-push, length-map}
use Rattle.notes_core.proofs.Placed.{next_placed}
use Rattle.notes_core.proofs.worlds.NotesWorld.open.Goals as goal

pub invariant_of-self : goal.invariant_of-self
invariant_of-self c =
    let ks : List Kept = c.self.inside.kept.items in
    let k : Kept = c.open.result in
    let notes : notes_of c.push_reserved.new.self.items ≡ notes_of ks ++ k.note ∷ [] = ap notes_of c.push_reserved.ensures.items ∙ map-push (λ (x : Kept). x.note) ks k in
    let places : places_of (notes_of c.push_reserved.new.self.items) ≡ places_of (notes_of ks) ++ k.note.at ∷ [] = ap places_of notes ∙ map-push (λ (n : Note). n.at) (notes_of ks) k.note in
    let at : k.note.at ≡ c.args.at = ap (λ (n : Note). n.at) c.open.ensures in
    let first = length-map (λ (x : Kept). x.note) ks in
    let second = length-map (λ (n : Note). n.at) (notes_of ks) in
    record {
      timely = c.requires.timely;
      placed = next_placed (places_of (notes_of ks)) (places_of (notes_of c.push_reserved.new.self.items)) c.self.inside.cells c.place.new.self c.args.at c.len.result
          c.self.invariant.placed
          (places ∙ ap (λ (p : Position). places_of (notes_of ks) ++ p ∷ []) at)
          (omega (arith, first, second, c.len.ensures, c.push_reserved.ensures.len))
          c.place.ensures.nodes;
    }
