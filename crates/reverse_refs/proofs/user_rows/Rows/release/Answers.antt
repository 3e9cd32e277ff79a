use Rattle.std.proofs.Common.{refl, ◌-◌, ◌<◌, ◌∙◌, sym, ap, subst, arith, slice_set}
use Rattle.reverse_refs.specs.Users.{UserRow}
use Rattle.reverse_refs.specs.Held.{row_held, promises}
use Rattle.reverse_refs.specs.declared.held.Held.TheVariants.{Nothing}
use Rattle.reverse_refs.proofs.OneUser.{has_room}
use Rattle.reverse_refs.proofs.RowSteps.{nothing, same_keys, at_row, there, spent, sound_after, view_after, small, list_there, list_is, edited, edited_view}
use Rattle.reverse_refs.proofs.user_rows.Rows.release.Goals as goal

pub release-requires : goal.release-requires
release-requires c =
    let here = at_row c.self.invariant c.self.view_is c.item_mut-row.ensures.value in
    let one = ap promises c.in-Promised.is in
    let some = spent here in
    omega (arith, one, some)

pub invariant_of-self : goal.invariant_of-self
invariant_of-self c =
    let here = at_row c.self.invariant c.self.view_is c.item_mut-row.ensures.value in
    let one = ap promises c.in-Promised.is in
    sound_after here (small here Nothing c.release.new.self (nothing _) (same_keys _ _ c.release.ensures.keys) (omega (arith, one, c.release.ensures.awaited)))

pub item_mut-requires : goal.item_mut-requires
item_mut-requires c = list_there (at_row c.self.invariant c.self.view_is c.item_mut-row.ensures.value) c.in-Listed.at c.in-Listed.is

pub invariant_of-self-in-Listed : goal.invariant_of-self-in-Listed
invariant_of-self-in-Listed c =
    let here = at_row c.self.invariant c.self.view_is c.item_mut-row.ensures.value in
    sound_after here (edited here c.in-Listed.at c.in-Listed.is _ c.item_mut.ensures.value refl)

pub returns-in-Promised : goal.returns-in-Promised
returns-in-Promised c =
    let here = at_row c.self.invariant c.self.view_is c.item_mut-row.ensures.value in
    let one = ap promises c.in-Promised.is in
    view_after here (small here Nothing c.release.new.self (nothing _) (same_keys _ _ c.release.ensures.keys) (omega (arith, one, c.release.ensures.awaited)))
    ∙ ap (slice_set c.args.self.now c.args.place) (ap (λ (r : UserRow). record r { free = r.free - 1 }) (sym (there here ∙ ap (row_held c.self.inside.slots c.self.inside.wide.keys) c.in-Promised.is)))

pub returns-in-Listed : goal.returns-in-Listed
returns-in-Listed c =
    let here = at_row c.self.invariant c.self.view_is c.item_mut-row.ensures.value in
    c.shrink.ensures
    ∙ edited_view here c.in-Listed.at c.in-Listed.is _ c.item_mut.ensures.value refl
    ∙ ap (slice_set c.args.self.now c.args.place) (c.release-in-Listed.ensures ∙ ap (λ (r : UserRow). record r { free = r.free - 1 }) (list_is here c.in-Listed.at c.in-Listed.is c.item_mut.ensures.value))

pub release-requires-in-Listed : goal.release-requires-in-Listed
release-requires-in-Listed c =
    let here = at_row c.self.invariant c.self.view_is c.item_mut-row.ensures.value in
    let room : 0 < c.item_mut.result.now.list.free = subst (λ (r : UserRow). 0 < r.free) (sym (list_is here c.in-Listed.at c.in-Listed.is c.item_mut.ensures.value)) c.requires in
    omega (arith, room)

pub unreachable-requires : goal.unreachable-requires
unreachable-requires c =
    let here = at_row c.self.invariant c.self.view_is c.item_mut-row.ensures.value in
    has_room c.self.inside.slots c.self.inside.wide.keys c.item_mut-row.result.now (subst (λ (r : UserRow). 0 < r.free) (there here) c.requires) c.in_default.not-Promised c.in_default.not-Listed
