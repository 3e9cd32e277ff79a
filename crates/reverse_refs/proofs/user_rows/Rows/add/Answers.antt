use Rattle.std.proofs.Common.{refl, ◌-◌, ◌<◌, ◌∙◌, sym, ap, subst, arith, slice_set}
use Rattle.osm_base.specs.Key.{lists_key}
use Rattle.reverse_refs.specs.Users.{UserRow, with_user}
use Rattle.reverse_refs.specs.Held.{row_held, promises}
use Rattle.reverse_refs.proofs.OneUser.{has_room}
use Rattle.reverse_refs.proofs.RowSteps.{at_row, there, spent, sound_after, view_after, small, list_there, list_is, edited, edited_view}
use Rattle.reverse_refs.proofs.user_rows.Rows.add.Goals as goal

pub one_of-requires : goal.one_of-requires
one_of-requires c =
    let here = at_row c.self.invariant c.self.view_is c.item_mut-row.ensures.value in
    let one = ap promises c.in-Promised.is in
    let some = spent here in
    omega (arith, one, some)

pub invariant_of-self : goal.invariant_of-self
invariant_of-self c =
    let here = at_row c.self.invariant c.self.view_is c.item_mut-row.ensures.value in
    let one = ap promises c.in-Promised.is in
    sound_after here (small here c.one_of.result c.one_of.new.wide c.one_of.ensures.small c.one_of.ensures.added (omega (arith, one, c.one_of.ensures.awaited)))

pub item_mut-requires : goal.item_mut-requires
item_mut-requires c = list_there (at_row c.self.invariant c.self.view_is c.item_mut-row.ensures.value) c.in-Listed.place c.in-Listed.is

pub add-requires-clause-room : goal.add-requires-clause-room
add-requires-clause-room c =
    let here = at_row c.self.invariant c.self.view_is c.item_mut-row.ensures.value in
    subst (λ (r : UserRow). 0 < r.free) (sym (list_is here c.in-Listed.place c.in-Listed.is c.item_mut.ensures.value)) c.requires.room

pub add-requires-clause-absent : goal.add-requires-clause-absent
add-requires-clause-absent c =
    let here = at_row c.self.invariant c.self.view_is c.item_mut-row.ensures.value in
    ap (λ (r : UserRow). lists_key r.present c.args.key) (list_is here c.in-Listed.place c.in-Listed.is c.item_mut.ensures.value) ∙ c.requires.absent

pub invariant_of-self-in-Listed : goal.invariant_of-self-in-Listed
invariant_of-self-in-Listed c =
    let here = at_row c.self.invariant c.self.view_is c.item_mut-row.ensures.value in
    sound_after here (edited here c.in-Listed.place c.in-Listed.is _ c.item_mut.ensures.value refl)

pub unreachable-requires : goal.unreachable-requires
unreachable-requires c =
    let here = at_row c.self.invariant c.self.view_is c.item_mut-row.ensures.value in
    has_room c.self.inside.slots c.self.inside.wide.keys c.item_mut-row.result.now (subst (λ (r : UserRow). 0 < r.free) (there here) c.requires.room) c.in_default.not-Promised c.in_default.not-Listed

pub returns-in-Promised : goal.returns-in-Promised
returns-in-Promised c =
    let here = at_row c.self.invariant c.self.view_is c.item_mut-row.ensures.value in
    let one = ap promises c.in-Promised.is in
    view_after here (small here c.one_of.result c.one_of.new.wide c.one_of.ensures.small c.one_of.ensures.added (omega (arith, one, c.one_of.ensures.awaited)))
    ∙ ap (slice_set c.args.self.now c.args.place)
    (c.one_of.ensures.row c.self.inside.slots
    ∙ ap (λ (r : UserRow). record (with_user r c.args.key) { free = r.free - 1 }) (sym (there here ∙ ap (row_held c.self.inside.slots c.self.inside.wide.keys) c.in-Promised.is)))

pub returns-in-Listed : goal.returns-in-Listed
returns-in-Listed c =
    let here = at_row c.self.invariant c.self.view_is c.item_mut-row.ensures.value in
    edited_view here c.in-Listed.place c.in-Listed.is _ c.item_mut.ensures.value refl
    ∙ ap (slice_set c.args.self.now c.args.place)
    (c.add.ensures
    ∙ ap (λ (r : UserRow). record (with_user r c.args.key) { free = r.free - 1 }) (list_is here c.in-Listed.place c.in-Listed.is c.item_mut.ensures.value))
