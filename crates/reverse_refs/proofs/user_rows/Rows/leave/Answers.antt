use Rattle.std.proofs.Common.{refl, ◌∙◌, sym, ap, slice_set}
use Rattle.osm_base.specs.Key.{lists_key}
use Rattle.reverse_refs.specs.Users.{UserRow, row_at, without_user}
use Rattle.reverse_refs.specs.Held.{row_held, wide_end}
use Rattle.reverse_refs.specs.declared.held.Held.TheVariants.{Left, WideLeft}
use Rattle.reverse_refs.proofs.OneUser.{leaves, has_user}
use Rattle.reverse_refs.proofs.RowSteps.{at_row, there, sound_after, view_after, turned, list_there, list_is, edited, edited_view}
use Rattle.reverse_refs.proofs.user_rows.Rows.leave.Goals as goal

pub invariant_of-self : goal.invariant_of-self
invariant_of-self c =
    let here = at_row c.self.invariant c.self.view_is c.item_mut-row.ensures.value in
    sound_after here (turned here (Left c.in-One.kind c.in-One.id) (λ p e. cc) refl (sym (ap wide_end c.in-One.is)))

pub invariant_of-self-in-WideOne : goal.invariant_of-self-in-WideOne
invariant_of-self-in-WideOne c =
    let here = at_row c.self.invariant c.self.view_is c.item_mut-row.ensures.value in
    sound_after here (turned here (WideLeft c.in-WideOne.place) (λ p e. cc) refl (sym (ap wide_end c.in-WideOne.is)))

pub item_mut-requires : goal.item_mut-requires
item_mut-requires c = list_there (at_row c.self.invariant c.self.view_is c.item_mut-row.ensures.value) c.in-Listed.place c.in-Listed.is

pub leave-requires : goal.leave-requires
leave-requires c =
    let here = at_row c.self.invariant c.self.view_is c.item_mut-row.ensures.value in
    ap (λ (r : UserRow). lists_key r.present c.args.key) (list_is here c.in-Listed.place c.in-Listed.is c.item_mut.ensures.value) ∙ c.requires

pub invariant_of-self-in-Listed : goal.invariant_of-self-in-Listed
invariant_of-self-in-Listed c =
    let here = at_row c.self.invariant c.self.view_is c.item_mut-row.ensures.value in
    sound_after here (edited here c.in-Listed.place c.in-Listed.is _ c.item_mut.ensures.value refl)

pub unreachable-requires : goal.unreachable-requires
unreachable-requires c =
    let here = at_row c.self.invariant c.self.view_is c.item_mut-row.ensures.value in
    has_user c.self.inside.slots c.self.inside.wide.keys c.item_mut-row.result.now c.args.key
    (ap (λ (r : UserRow). lists_key r.present c.args.key) (sym (there here)) ∙ c.requires)
    c.in_default.not-One
    c.in_default.not-WideOne
    c.in_default.not-Listed

pub returns-in-One : goal.returns-in-One
returns-in-One c =
    let here = at_row c.self.invariant c.self.view_is c.item_mut-row.ensures.value in
    view_after here (turned here (Left c.in-One.kind c.in-One.id) (λ p e. cc) refl (sym (ap wide_end c.in-One.is)))
    ∙ ap (slice_set c.args.self.now c.args.place)
    (leaves (row_at c.args.self.now c.args.place) _ c.args.key (there here ∙ ap (row_held c.self.inside.slots c.self.inside.wide.keys) c.in-One.is) c.requires)

pub returns-in-WideOne : goal.returns-in-WideOne
returns-in-WideOne c =
    let here = at_row c.self.invariant c.self.view_is c.item_mut-row.ensures.value in
    view_after here (turned here (WideLeft c.in-WideOne.place) (λ p e. cc) refl (sym (ap wide_end c.in-WideOne.is)))
    ∙ ap (slice_set c.args.self.now c.args.place)
    (leaves (row_at c.args.self.now c.args.place) _ c.args.key (there here ∙ ap (row_held c.self.inside.slots c.self.inside.wide.keys) c.in-WideOne.is) c.requires)

pub returns-in-Listed : goal.returns-in-Listed
returns-in-Listed c =
    let here = at_row c.self.invariant c.self.view_is c.item_mut-row.ensures.value in
    edited_view here c.in-Listed.place c.in-Listed.is _ c.item_mut.ensures.value refl
    ∙ ap (slice_set c.args.self.now c.args.place)
    (c.leave.ensures ∙ ap (λ (r : UserRow). without_user r c.args.key) (list_is here c.in-Listed.place c.in-Listed.is c.item_mut.ensures.value))
