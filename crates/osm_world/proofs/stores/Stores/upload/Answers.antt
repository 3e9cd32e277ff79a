use Rattle.std.proofs.Common.{◌≡◌, refl, ◌-◌, ◌≤◌, ℕ, length, sym, ap, ◌∙◌, subst, arith}
use Rattle.std.specs.Prelude.{slice_set, nat_lt, if◌then◌else◌}
use Rattle.std.proofs.Math.ListN.{length-set}
use Rattle.osm_base.specs.Row.{Row}
use Rattle.changeset_core.specs.Changeset.{join_areas}
use Rattle.changeset_core.specs.Kept.{Kept}
use Rattle.osm_world.specs.World.{stored_state, Runs}
use Rattle.osm_world.proofs.Replaced.{IsPut, is_put, put-same, put-less, index-told}
use Rattle.osm_world.proofs.Uploaded.{id_is, numbered_same, there_in, uploaded_is}
use Rattle.osm_world.proofs.stores.Stores.upload.Goals as goal

pub apply_all-touched-requires-clause-accepted : goal.apply_all-touched-requires-clause-accepted
apply_all-touched-requires-clause-accepted c =
    let id : c.replace-kept.result.id ≡ c.args.id
    = id_is c.args.self.now.changesets.items c.args.id c.replace-kept.result c.requires.numbered c.requires.known.0 (there_in c.args.self.now.changesets.items c.args.id c.requires.known.1) c.replace-kept.ensures.was in
    (c.requires.accepted.0, subst (λ (n : ℕ). Runs c.args.self.now.map.elements n c.args.at c.args.operations c.requires.accepted.0) (sym id) c.requires.accepted.1)

pub apply_all-touched-requires-clause-work : goal.apply_all-touched-requires-clause-work
apply_all-touched-requires-clause-work c =
    subst (λ (n : ℕ). length c.args.operations ≤ n)
    (index-told (λ (k : Kept). k.free) c.args.self.now.changesets.items (c.args.id - 1) c.replace-kept.result c.replace-kept.ensures.was)
    c.requires.room.work

pub apply_all-touched-requires-clause-short : goal.apply_all-touched-requires-clause-short
apply_all-touched-requires-clause-short c =
    let id : c.replace-kept.result.id ≡ c.args.id
    = id_is c.args.self.now.changesets.items c.args.id c.replace-kept.result c.requires.numbered c.requires.known.0 (there_in c.args.self.now.changesets.items c.args.id c.requires.known.1) c.replace-kept.ensures.was in
    omega (arith, id, c.requires.room.short)

pub set-requires : goal.set-requires
set-requires c =
    let within : c.args.id ≤ length c.args.self.now.changesets.items = there_in c.args.self.now.changesets.items c.args.id c.requires.known.1 in
    let long : length c.replace-kept.new.self.items ≡ length c.args.self.now.changesets.items
    = ap (λ (row : Row Kept). length row.items) c.replace-kept.ensures.row ∙ length-set c.args.self.now.changesets.items (c.args.id - 1) c.vacant.result in
    omega (arith, c.requires.known.0, within, long)

pub returns-clause-done : goal.returns-clause-done
returns-clause-done c final runs =
    let ks = c.args.self.now.changesets.items in
    let id : c.replace-kept.result.id ≡ c.args.id
    = id_is ks c.args.id c.replace-kept.result c.requires.numbered c.requires.known.0 (there_in ks c.args.id c.requires.known.1) c.replace-kept.ensures.was in
    let put : IsPut ks (c.args.id - 1) c.replace-kept.result c.finish.new.changeset c.set.new.self.items
    = is_put ks c.set.new.self.items (c.args.id - 1) c.vacant.result c.replace-kept.result c.finish.new.changeset
    c.replace-kept.ensures.was
    (ap (λ (row : Row Kept). row.items) c.set.ensures ∙ ap (λ (row : Row Kept). slice_set row.items (c.args.id - 1) c.finish.new.changeset) c.replace-kept.ensures.row) in
    let s = c.apply_all-touched.new.changeset.kept in
    uploaded_is (stored_state c.args.self.now) c.args.at c.args.id c.apply_all-touched.new.map.elements ks c.set.new.self.items c.replace-kept.result c.finish.new.changeset s c.apply_all-touched.result final
    refl
    c.requires.known
    put
    (c.apply_all-touched.ensures.done final (subst (λ (n : ℕ). Runs c.args.self.now.map.elements n c.args.at c.args.operations final) (sym id) runs))
    (c.finish.ensures.kept
    ∙ ap (λ (n : ℕ). record s { activity = (if nat_lt n (length s.did) then c.args.at else s.activity); touched = join_areas s.touched c.apply_all-touched.result }) c.count-before.ensures.counted)

pub returns-clause-numbered : goal.returns-clause-numbered
returns-clause-numbered c =
    let ks = c.args.self.now.changesets.items in
    let put : IsPut ks (c.args.id - 1) c.replace-kept.result c.finish.new.changeset c.set.new.self.items
    = is_put ks c.set.new.self.items (c.args.id - 1) c.vacant.result c.replace-kept.result c.finish.new.changeset
    c.replace-kept.ensures.was
    (ap (λ (row : Row Kept). row.items) c.set.ensures ∙ ap (λ (row : Row Kept). slice_set row.items (c.args.id - 1) c.finish.new.changeset) c.replace-kept.ensures.row) in
    numbered_same ks c.set.new.self.items
    (put-same (λ (k : Kept). k.id) ks (c.args.id - 1) c.replace-kept.result c.finish.new.changeset c.set.new.self.items put (c.finish.ensures.id ∙ c.apply_all-touched.ensures.id))
    c.requires.numbered

pub returns-clause-rooms : goal.returns-clause-rooms
returns-clause-rooms c =
    let ks = c.args.self.now.changesets.items in
    let put : IsPut ks (c.args.id - 1) c.replace-kept.result c.finish.new.changeset c.set.new.self.items
    = is_put ks c.set.new.self.items (c.args.id - 1) c.vacant.result c.replace-kept.result c.finish.new.changeset
    c.replace-kept.ensures.was
    (ap (λ (row : Row Kept). row.items) c.set.ensures ∙ ap (λ (row : Row Kept). slice_set row.items (c.args.id - 1) c.finish.new.changeset) c.replace-kept.ensures.row) in
    put-less (λ (k : Kept). k.free) ks (c.args.id - 1) c.replace-kept.result c.finish.new.changeset c.set.new.self.items put
    (omega (arith, c.finish.ensures.free, c.apply_all-touched.ensures.no_more))
