use Rattle.std.proofs.Common.{◌≡◌, ℕ, ◌+◌, ◌∷◌, [], None, refl, List, length, drop, length-append, sym, ap, ◌∙◌, subst, arith}
use Rattle.std.specs.Prelude.{if◌then◌else◌}
use Rattle.std.specs.Vec.Iter.{into_iter_items}
use Rattle.std.proofs.lemmas.List.{nil_from_length}
use Rattle.osm_base.specs.Row.{Row}
use Rattle.osm_base.specs.declared.keys.Key.{Key}
use Rattle.osm_element.specs.Elements.{push_version}
use Rattle.osm_change.specs.declared.operations.Op.{Op}
use Rattle.changeset_core.specs.Changeset.{touched_area}
use Rattle.osm_world.specs.Beds.{content_of_op, makes, version_of_op}
use Rattle.osm_world.specs.declared.beds.Bed.{Bed}
use Rattle.osm_world.proofs.Going.{ends, IsGoing}
use Rattle.osm_world.proofs.Midway.{IsMidway, first, next, ready_for, room_for}
use Rattle.osm_world.proofs.uploads.apply_all.Goals as goal

pub loop-operation-init : goal.loop-operation-init
loop-operation-init c =
    let m = first c.args.changeset.now.id c.args.at c.args.map.now c.args.changeset.now c.args.laid.now.keys c.args.laid.now.beds c.args.operations (into_iter_items c.into_iter-operation-iterator.result)
    (c.into_iter-operation-iterator.ensures.into_iter_gives.0 ∙ c.into_vec-operation-items.ensures)
    c.requires.unused
    c.requires.beds
    c.requires.keys
    c.requires.versions
    c.requires.users
    c.requires.cells
    c.requires.work in
    record { next = tt; finite = tt; beds = m.beds; keys = m.keys; versions = m.versions; users = m.users; cells = m.cells; work = m.work; no_more = omega arith; id = refl; going = m.going }

pub apply_one-touched-requires-clause-counted : goal.apply_one-touched-requires-clause-counted
apply_one-touched-requires-clause-counted c =
    (ready_for c.args.map.now.elements c.args.changeset.now.kept c.args.changeset.now.id c.args.at c.loop-operation.map.elements c.loop-operation.changeset.kept c.loop-operation.area c.args.operations
    c.in-Some.operation (into_iter_items c.next.new.self) (into_iter_items c.loop-operation.operation-iterator)
    c.take_bed-bed.result (drop (length c.items-place.result.now + 1) c.take_bed-bed.new.beds) (drop (length c.loop-operation.laid.keys.items) c.loop-operation.laid.beds)
    c.loop-operation.laid.keys.items
    c.requires.accepted
    c.in-Some.ensures.steps.0
    (ap (λ (ks : List Key). drop (length ks) c.loop-operation.laid.beds) (sym c.items-place.ensures) ∙ c.take_bed-bed.ensures)
    c.loop-operation.invariant.beds
    c.loop-operation.invariant.going).counted

pub apply_one-touched-requires-clause-follows : goal.apply_one-touched-requires-clause-follows
apply_one-touched-requires-clause-follows c =
    (ready_for c.args.map.now.elements c.args.changeset.now.kept c.args.changeset.now.id c.args.at c.loop-operation.map.elements c.loop-operation.changeset.kept c.loop-operation.area c.args.operations
    c.in-Some.operation (into_iter_items c.next.new.self) (into_iter_items c.loop-operation.operation-iterator)
    c.take_bed-bed.result (drop (length c.items-place.result.now + 1) c.take_bed-bed.new.beds) (drop (length c.loop-operation.laid.keys.items) c.loop-operation.laid.beds)
    c.loop-operation.laid.keys.items
    c.requires.accepted
    c.in-Some.ensures.steps.0
    (ap (λ (ks : List Key). drop (length ks) c.loop-operation.laid.beds) (sym c.items-place.ensures) ∙ c.take_bed-bed.ensures)
    c.loop-operation.invariant.beds
    c.loop-operation.invariant.going).follows

pub apply_one-touched-requires-clause-room : goal.apply_one-touched-requires-clause-room
apply_one-touched-requires-clause-room c =
    room_for c.loop-operation.map c.take_bed-bed.result (drop (length c.items-place.result.now + 1) c.take_bed-bed.new.beds) (drop (length c.loop-operation.laid.keys.items) c.loop-operation.laid.beds)
    c.in-Some.operation (into_iter_items c.next.new.self) (into_iter_items c.loop-operation.operation-iterator)
    c.in-Some.ensures.steps.0
    (ap (λ (ks : List Key). drop (length ks) c.loop-operation.laid.beds) (sym c.items-place.ensures) ∙ c.take_bed-bed.ensures)
    c.loop-operation.invariant.versions
    c.loop-operation.invariant.users
    c.loop-operation.invariant.cells

pub loop-operation-preserved : goal.loop-operation-preserved
loop-operation-preserved c =
    let o = c.in-Some.operation in
    let bed = c.take_bed-bed.result in
    let E = c.loop-operation.map.elements in
    let bs = drop (length c.push.new.self.items) c.take_bed-bed.new.beds in
    let long : length c.push.new.self.items ≡ length c.loop-operation.laid.keys.items + 1
    = ap (λ (row : Row Key). length row.items) c.push.ensures ∙ length-append c.loop-operation.laid.keys.items (bed.key ∷ []) in
    let cut : drop (length c.loop-operation.laid.keys.items) c.loop-operation.laid.beds ≡ bed ∷ bs
    = ap (λ (ks : List Key). drop (length ks) c.loop-operation.laid.beds) (sym c.items-place.ensures)
    ∙ c.take_bed-bed.ensures
    ∙ ap (λ (ks : List Key). bed ∷ drop (length ks + 1) c.take_bed-bed.new.beds) c.items-place.ensures
    ∙ ap (λ (n : ℕ). bed ∷ drop n c.take_bed-bed.new.beds) (sym long) in
    let M : List Bed → List Op → Type 0 = λ beds rest. IsMidway c.args.map.now.elements c.args.changeset.now.kept c.args.changeset.now.id c.args.at c.args.operations c.loop-operation.map c.loop-operation.changeset c.loop-operation.area c.loop-operation.laid.keys beds rest in
    let now : M (drop (length c.loop-operation.laid.keys.items) c.loop-operation.laid.beds) (into_iter_items c.loop-operation.operation-iterator) = record {
      beds = c.loop-operation.invariant.beds;
      keys = c.loop-operation.invariant.keys;
      versions = c.loop-operation.invariant.versions;
      users = c.loop-operation.invariant.users;
      cells = c.loop-operation.invariant.cells;
      work = c.loop-operation.invariant.work;
      going = c.loop-operation.invariant.going;
    } in
    let mid : M (bed ∷ bs) (o ∷ into_iter_items c.next.new.self)
    = subst (λ (rest : List Op). M (bed ∷ bs) rest) c.in-Some.ensures.steps.0 (subst (λ (beds : List Bed). M beds (into_iter_items c.loop-operation.operation-iterator)) cut now) in
    let m = next c.args.map.now.elements c.args.changeset.now.kept c.args.changeset.now.id c.args.at c.args.operations c.loop-operation.map c.apply_one-touched.new.map c.loop-operation.changeset c.apply_one-touched.new.changeset c.loop-operation.area c.join_boxes-area.result c.apply_one-touched.result c.loop-operation.laid.keys c.push.new.self bed bs o (into_iter_items c.next.new.self)
    c.requires.accepted
    mid
    c.push.ensures
    (c.apply_one-touched.ensures.elements
    ∙ ap (λ (ks : List Key). if makes E bed.key o then push_version E bed.key (version_of_op c.loop-operation.changeset.id c.args.at ks o) else E) c.items.ensures
    ∙ ap (λ (n : ℕ). if makes E bed.key o then push_version E bed.key (version_of_op n c.args.at c.loop-operation.laid.keys.items o) else E) c.loop-operation.invariant.id)
    c.apply_one-touched.ensures.entered
    (c.apply_one-touched.ensures.touched
    ∙ ap (λ (ks : List Key). if makes E bed.key o then touched_area E bed.key (content_of_op ks o) else None) c.items.ensures)
    c.join_boxes-area.ensures
    c.apply_one-touched.ensures.versions
    c.apply_one-touched.ensures.users
    c.apply_one-touched.ensures.cells
    c.apply_one-touched.ensures.ever
    c.apply_one-touched.ensures.work in
    record { next = tt; finite = tt; beds = m.beds; keys = m.keys; versions = m.versions; users = m.users; cells = m.cells; work = m.work; no_more = omega (arith, c.apply_one-touched.ensures.no_more, c.loop-operation.invariant.no_more); id = c.apply_one-touched.ensures.id ∙ c.loop-operation.invariant.id; going = m.going }

pub returns-clause-done : goal.returns-clause-done
returns-clause-done c final runs =
    let G : List Op → Type 0 = λ rest. IsGoing c.args.map.now.elements c.args.changeset.now.kept c.args.changeset.now.id c.args.at c.args.operations final c.loop-operation.map.elements c.loop-operation.changeset.kept c.loop-operation.area rest c.loop-operation.laid.keys.items in
    ends c.args.map.now.elements c.args.changeset.now.kept c.args.changeset.now.id c.args.at c.args.operations final c.loop-operation.map.elements c.loop-operation.changeset.kept c.loop-operation.area c.loop-operation.laid.keys.items
    (subst G (nil_from_length (into_iter_items c.loop-operation.operation-iterator) (sym c.loop-operation.operation-iterator.rest.ok.0 ∙ c.in-None.ensures.steps.0)) (c.loop-operation.invariant.going final runs))
