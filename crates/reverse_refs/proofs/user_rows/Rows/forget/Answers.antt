use Rattle.std.proofs.Common.{refl, ◌∙◌, sym, ap, arith, ℕ, slice_set}
use Rattle.reverse_refs.specs.Users.{UserRow, row_at}
use Rattle.reverse_refs.specs.Held.{row_held, promises}
use Rattle.reverse_refs.specs.declared.held.Held.TheVariants.{Nothing}
use Rattle.reverse_refs.proofs.OneUser.{no_room}
use Rattle.reverse_refs.proofs.RowSteps.{nothing, same_keys, at_row, there, spent, stays, same_view, same_row, sound_after, view_after, small, list_there, list_is, edited, edited_view}
use Rattle.reverse_refs.proofs.user_rows.Rows.forget.Goals as goal

pub release-requires : goal.release-requires
release-requires c =
    let here = at_row c.self.invariant c.self.view_is c.item_mut-row.ensures.value in
    let one = ap promises c.in-Promised.is in
    let some = spent here in
    omega (arith, one, some)

pub invariant_of-self : goal.invariant_of-self
invariant_of-self c =
    let here = at_row c.self.invariant c.self.view_is c.item_mut-row.ensures.value in
    let one = ap promises c.in-Promised.is in
    sound_after here (small here Nothing c.release.new.self (nothing _) (same_keys _ _ c.release.ensures.keys) (omega (arith, one, c.release.ensures.awaited)))

pub item_mut-requires : goal.item_mut-requires
item_mut-requires c = list_there (at_row c.self.invariant c.self.view_is c.item_mut-row.ensures.value) c.in-Listed.at c.in-Listed.is

pub invariant_of-self-in-Listed : goal.invariant_of-self-in-Listed
invariant_of-self-in-Listed c =
    let here = at_row c.self.invariant c.self.view_is c.item_mut-row.ensures.value in
    sound_after here (edited here c.in-Listed.at c.in-Listed.is _ c.item_mut.ensures.value refl)

pub returns-in-Promised : goal.returns-in-Promised
returns-in-Promised c =
    let here = at_row c.self.invariant c.self.view_is c.item_mut-row.ensures.value in
    let one = ap promises c.in-Promised.is in
    view_after here (small here Nothing c.release.new.self (nothing _) (same_keys _ _ c.release.ensures.keys) (omega (arith, one, c.release.ensures.awaited)))
    ∙ ap (slice_set c.args.self.now c.args.place) (ap (λ (r : UserRow). record r { free = 0 }) (sym (there here ∙ ap (row_held c.self.inside.slots c.self.inside.wide.keys) c.in-Promised.is)))

pub returns-in-Listed : goal.returns-in-Listed
returns-in-Listed c =
    let here = at_row c.self.invariant c.self.view_is c.item_mut-row.ensures.value in
    c.shrink.ensures
    ∙ edited_view here c.in-Listed.at c.in-Listed.is _ c.item_mut.ensures.value refl
    ∙ ap (slice_set c.args.self.now c.args.place) (c.forget.ensures ∙ ap (λ (r : UserRow). record r { free = 0 }) (list_is here c.in-Listed.at c.in-Listed.is c.item_mut.ensures.value))

pub invariant_of-self-in_default : goal.invariant_of-self-in_default
invariant_of-self-in_default c = let here = at_row c.self.invariant c.self.view_is c.item_mut-row.ensures.value in
    stays here c.self.inside.slots c.self.inside.wide refl refl refl

pub returns-in_default : goal.returns-in_default
returns-in_default c =
    let here = at_row c.self.invariant c.self.view_is c.item_mut-row.ensures.value in
    let none = ap (λ (r : UserRow). r.free) (there here) ∙ no_room c.self.inside.slots c.self.inside.wide.keys c.item_mut-row.result.now c.in_default.not-Promised c.in_default.not-Listed in
    same_view here c.self.inside.slots c.self.inside.wide.keys refl refl ∙ sym (same_row here) ∙ ap (λ (n : ℕ). slice_set c.args.self.now c.args.place (record (row_at c.args.self.now c.args.place) { free = n })) none
