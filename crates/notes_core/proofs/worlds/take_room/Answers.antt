use Rattle.std.proofs.Common.{◌≡◌, ◌<◌, ℕ, List, Some, length, refl, ap, ◌∙◌, arith}
use Rattle.std.specs.Prelude.{Result, Ok, Err, OnOk, slice_get, slice_set, slice_index}
use Rattle.std.proofs.lemmas.Option.{slice_get_read}
use Rattle.osm_base.specs.declared.memory.Memory.{Memory}
use Rattle.notes_core.specs.World.{Kept, spares_of}
use Rattle.notes_core.proofs.Lists.{map-put, put-same, index-put, length-map}
use Rattle.notes_core.proofs.worlds.take_room.Goals as goal

pub returns-clause-notes : goal.returns-clause-notes
returns-clause-notes c =
    let ks : List Kept = c.args.kept.now.items in
    let at : slice_get ks c.args.place ≡ Some c.index_mut.result.now = slice_get_read ks (length ks) c.args.place c.index_mut.result.now refl c.requires c.index_mut.ensures.value in
    put-same (λ (k : Kept). k.note) ks c.args.place c.index_mut.result.now c.room.new.self at c.room.ensures.note

pub returns-clause-ok : goal.returns-clause-ok
returns-clause-ok c =
    let ks : List Kept = c.args.kept.now.items in
    let put : slice_index (spares_of (slice_set ks c.args.place c.room.new.self)) c.args.place ≡ c.room.new.self.spare
    = ap (λ (ns : List ℕ). slice_index ns c.args.place) (map-put (λ (k : Kept). k.spare) ks c.args.place c.room.new.self)
    ∙ index-put (spares_of ks) c.args.place c.room.new.self.spare (let len = length-map (λ (k : Kept). k.spare) ks in omega (arith, len, c.requires)) in
    enough c.room.result c.room.new.self.spare (slice_index (spares_of (slice_set ks c.args.place c.room.new.self)) c.args.place) put c.room.ensures.ok
  where
    enough : (r : Result (Unit {0}) Memory) (spare n : ℕ) → n ≡ spare → OnOk r (0 < spare) → OnOk r (0 < n)
    enough (Ok x) spare n e some = omega (arith, e, some)
    enough (Err x) spare n e some = tt
