use Rattle.std.proofs.Common.{◌≡◌, List, Some, length, refl, sym, ap, ◌∙◌, arith}
use Rattle.std.specs.Prelude.{slice_get, slice_set, slice_index}
use Rattle.std.proofs.lemmas.Option.{slice_get_read}
use Rattle.notes_core.specs.Act.{commented}
use Rattle.notes_core.specs.World.{Kept, notes_of, spares_of}
use Rattle.notes_core.specs.declared.notes.Note.{Note}
use Rattle.notes_core.proofs.Lists.{map-put, told, index-told}
use Rattle.notes_core.proofs.worlds.add_comment.Goals as goal

pub add-requires-clause-room : goal.add-requires-clause-room
add-requires-clause-room c =
    let ks : List Kept = c.args.kept.now.items in
    let at : slice_get ks c.args.place ≡ Some c.index_mut.result.now = slice_get_read ks (length ks) c.args.place c.index_mut.result.now refl c.requires.within c.index_mut.ensures.value in
    let spare : slice_index (spares_of ks) c.args.place ≡ c.index_mut.result.now.spare = index-told (λ (k : Kept). k.spare) ks c.args.place c.index_mut.result.now at in
    omega (arith, spare, c.requires.room)

pub returns : goal.returns
returns c = λ n known.
    let ks : List Kept = c.args.kept.now.items in
    let at : slice_get ks c.args.place ≡ Some c.index_mut.result.now = slice_get_read ks (length ks) c.args.place c.index_mut.result.now refl c.requires.within c.index_mut.ensures.value in
    let same : c.index_mut.result.now.note ≡ n = same_some c.index_mut.result.now.note n (sym (told (λ (k : Kept). k.note) ks c.args.place c.index_mut.result.now at) ∙ known) in
    map-put (λ (k : Kept). k.note) ks c.args.place c.add.new.self
    ∙ ap (λ (m : Note). slice_set (notes_of ks) c.args.place m) (c.add.ensures ∙ ap (λ (m : Note). commented m c.args.comment) same)
  where
    same_some : (m n : Note) → Some m ≡ Some n → m ≡ n
    same_some m n e = cc
