use Rattle.std.proofs.Common.{refl, ◌∙◌, sym, ap, slice_set}
use Rattle.osm_base.specs.Key.{lists_key}
use Rattle.reverse_refs.specs.Users.{UserRow, row_at, with_user}
use Rattle.reverse_refs.specs.Held.{row_held, wide_end}
use Rattle.reverse_refs.specs.declared.held.Held.TheVariants.{One, WideOne}
use Rattle.reverse_refs.proofs.OneUser.{returns, had_user}
use Rattle.reverse_refs.proofs.RowSteps.{at_row, there, sound_after, view_after, turned, list_there, list_is, edited, edited_view}
use Rattle.reverse_refs.proofs.user_rows.Rows.come_back.Goals as goal

pub invariant_of-self : goal.invariant_of-self
invariant_of-self c =
    let here = at_row c.self.invariant c.self.view_is c.item_mut-row.ensures.value in
    sound_after here (turned here (One c.in-Left.kind c.in-Left.id) (λ p e. cc) refl (sym (ap wide_end c.in-Left.is)))

pub invariant_of-self-in-WideLeft : goal.invariant_of-self-in-WideLeft
invariant_of-self-in-WideLeft c =
    let here = at_row c.self.invariant c.self.view_is c.item_mut-row.ensures.value in
    sound_after here (turned here (WideOne c.in-WideLeft.place) (λ p e. cc) refl (sym (ap wide_end c.in-WideLeft.is)))

pub item_mut-requires : goal.item_mut-requires
item_mut-requires c = list_there (at_row c.self.invariant c.self.view_is c.item_mut-row.ensures.value) c.in-Listed.place c.in-Listed.is

pub come_back-requires : goal.come_back-requires
come_back-requires c =
    let here = at_row c.self.invariant c.self.view_is c.item_mut-row.ensures.value in
    ap (λ (r : UserRow). lists_key r.past c.args.key) (list_is here c.in-Listed.place c.in-Listed.is c.item_mut.ensures.value) ∙ c.requires

pub invariant_of-self-in-Listed : goal.invariant_of-self-in-Listed
invariant_of-self-in-Listed c =
    let here = at_row c.self.invariant c.self.view_is c.item_mut-row.ensures.value in
    sound_after here (edited here c.in-Listed.place c.in-Listed.is _ c.item_mut.ensures.value refl)

pub unreachable-requires : goal.unreachable-requires
unreachable-requires c =
    let here = at_row c.self.invariant c.self.view_is c.item_mut-row.ensures.value in
    had_user c.self.inside.slots c.self.inside.wide.keys c.item_mut-row.result.now c.args.key
    (ap (λ (r : UserRow). lists_key r.past c.args.key) (sym (there here)) ∙ c.requires)
    c.in_default.not-Left
    c.in_default.not-WideLeft
    c.in_default.not-Listed

pub returns-in-Left : goal.returns-in-Left
returns-in-Left c =
    let here = at_row c.self.invariant c.self.view_is c.item_mut-row.ensures.value in
    view_after here (turned here (One c.in-Left.kind c.in-Left.id) (λ p e. cc) refl (sym (ap wide_end c.in-Left.is)))
    ∙ ap (slice_set c.args.self.now c.args.place)
    (returns (row_at c.args.self.now c.args.place) _ c.args.key (there here ∙ ap (row_held c.self.inside.slots c.self.inside.wide.keys) c.in-Left.is) c.requires)

pub returns-in-WideLeft : goal.returns-in-WideLeft
returns-in-WideLeft c =
    let here = at_row c.self.invariant c.self.view_is c.item_mut-row.ensures.value in
    view_after here (turned here (WideOne c.in-WideLeft.place) (λ p e. cc) refl (sym (ap wide_end c.in-WideLeft.is)))
    ∙ ap (slice_set c.args.self.now c.args.place)
    (returns (row_at c.args.self.now c.args.place) _ c.args.key (there here ∙ ap (row_held c.self.inside.slots c.self.inside.wide.keys) c.in-WideLeft.is) c.requires)

pub returns-in-Listed : goal.returns-in-Listed
returns-in-Listed c =
    let here = at_row c.self.invariant c.self.view_is c.item_mut-row.ensures.value in
    edited_view here c.in-Listed.place c.in-Listed.is _ c.item_mut.ensures.value refl
    ∙ ap (slice_set c.args.self.now c.args.place)
    (c.come_back.ensures ∙ ap (λ (r : UserRow). with_user r c.args.key) (list_is here c.in-Listed.place c.in-Listed.is c.item_mut.ensures.value))
